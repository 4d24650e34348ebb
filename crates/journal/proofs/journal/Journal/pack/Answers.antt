use Rattle.std.proofs.Common.{length, take, sym, ap, ◌∙◌, arith}
use Rattle.journal.specs.Log.{log, sound, replay}
use Rattle.journal.specs.Normal.{provider_of}
use Rattle.journal.specs.Held.{contents_of}
use Rattle.journal.proofs.Replays.{replay_live}
use Rattle.journal.proofs.Normals.{provider_pack}
use Rattle.journal.proofs.Holdings.{held, contents_packed}
use Rattle.journal.proofs.journal.Journal.pack.Goals as goal

pub invariant_of-self : goal.invariant_of-self
invariant_of-self c =
    let l = c.pack-self.ensures in
    let n = c.pack-self.auto.bytes in
    let rs = log c.args.self.now.width (take c.args.self.now.used c.args.self.now.bytes.now) in
    record {
      narrow = c.args.self.now.narrow;
      within = l.within;
      whole = ap (sound c.args.self.now.width) l.is ∙ l.sounds;
      zeros = l.zeros;
      counted = c.args.self.now.counted ∙ ap length (sym (replay_live rs)) ∙ ap (λ xs. length (replay xs)) (sym l.is);
      few = c.args.self.now.few;
      fits = λ h. let f = c.args.self.now.fits h in omega arith;
    }

pub returns : goal.returns
returns c =
    let e = contents_packed c.args.self.now.width c.args.self.now.room c.args.self.now.used c.pack-self.result c.args.self.now.bytes.now c.pack-self.new.bytes c.pack-self.ensures c.pack-self.auto.bytes in
    record { log = held _ _ e; same = λ wide f. ap (provider_of wide f) e ∙ provider_pack wide f (contents_of c.args.self.now) }
