use Rattle.std.proofs.Common.{◌≡◌, ℕ, ◌*◌, ◌<◌, List, ⊎_elim, length, get_or, set, ap, ◌∙◌, rules}
use Rattle.std.proofs.lemmas.List.{length-map, map-set}
use Rattle.protocol.specs.Answers.{dropped}
use Rattle.protocol.specs.Lines.{blank_line}
use Rattle.protocol.specs.Seats.{activity}
use Rattle.protocol.specs.Steps.{fetch_at}
use Rattle.records.specs.Means.{line_means, progress_means, seat_means}
use Rattle.records.specs.declared.line.Line.{Line}
use Rattle.records.specs.declared.seat.Seat.{Seat}
use Rattle.relay.specs.Effects.{Others, among}
use Rattle.relay.specs.Sheets.{lines_mean, fetch_on}
use Rattle.relay.proofs.Among.{freed_among, fetch_among}
use Rattle.relay.proofs.Own.{read_at}
use Rattle.relay.proofs.steps.fetch_line.Goals as goal

-- the step of a line that is read among a seat's own lines
module _ {V : Type 0} (code : V → List ℕ) (o : Others) (s i looks : ℕ) (seat : Seat V) (own : List (Line V)) (line : Line V) (within : s < length o.seats) (starts : length o.before ≡ s * length own) (lt : i < length own) (is : line ≡ get_or own i line) where
  fetched : fetch_at (length own) s i (activity (seat_means code seat)) (line_means code line) (among o s (seat_means code seat) (lines_mean code own) looks) ≡ fetch_on (length own) s i (among o s (seat_means code seat) (lines_mean code own) looks)
  fetched = fetch_among o (length own) s (seat_means code seat) (lines_mean code own) looks within starts (length-map own (line_means code)) i (line_means code line) lt (read_at (line_means code) blank_line own i line lt is)

pub returns-in-Free-clause-step : goal.returns-in-Free-clause-step
returns-in-Free-clause-step g c =
    λ o within starts.
    ⊎_elim (λ free. search rules) (λ sent. search rules) c.in-Free.is
    ∙ fetched g.V.Kind.code o c.args.s c.args.i c.args.looks.now c.args.seat.now c.args.own.now c.index-own-i.result within starts c.requires c.index-own-i.is

pub returns-then-stale-clause-step : goal.returns-then-stale-clause-step
returns-then-stale-clause-step g c =
    λ o within starts.
    let code = g.V.Kind.code in
    let own = c.args.own.now in
    let q = seat_means code c.args.seat.now in
    ap (λ ls. (among o c.args.s q ls c.args.looks.now, dropped)) (map-set (line_means code) own c.args.i c.freed.result ∙ ap (set (lines_mean code own) c.args.i) c.freed.ensures)
    ∙ (ap (λ D. (D, dropped)) (freed_among o (length own) c.args.s q (lines_mean code own) c.args.looks.now within starts (length-map own (line_means code)) c.args.i (progress_means code c.index-own-i.result) c.args.looks.now c.requires)
    ∙ (search rules
    ∙ fetched code o c.args.s c.args.i c.args.looks.now c.args.seat.now own c.index-own-i.result within starts c.requires c.index-own-i.is))

pub returns-then-foreign-clause-step : goal.returns-then-foreign-clause-step
returns-then-foreign-clause-step g c =
    λ o within starts.
    search rules
    ∙ fetched g.V.Kind.code o c.args.s c.args.i c.args.looks.now c.args.seat.now c.args.own.now c.index-own-i.result within starts c.requires c.index-own-i.is

pub returns-else-foreign-clause-step : goal.returns-else-foreign-clause-step
returns-else-foreign-clause-step g c =
    λ o within starts.
    c.take_answer.ensures o within starts
    ∙ (search rules
    ∙ fetched g.V.Kind.code o c.args.s c.args.i c.args.looks.now c.args.seat.now c.args.own.now c.index-own-i.result within starts c.requires c.index-own-i.is)
