-- A history of seats from 0 on, as the proof has it, and the history of the calls, whose seats count from 1.
use Rattle.std.proofs.Common.{◌≡◌, ℕ, zero, suc, Bool, true, false, eqb, List, ◌∷◌, ◌++◌, Option, sym, refl, ap, ◌∙◌, subst, ap₂, inl, inr, arith}
use Rattle.std.proofs.lemmas.Bool.{cond-true, cond-false, eq-eqb, ne_eqb, cases_eq}
use Rattle.protocol.specs.Answers.{Answer, ok, on, dropped, wrote, read, read_none, used, refused}
use Rattle.protocol.specs.History.{History, Operation, Doing, resting, writing, reading, update, begins, begin_noted, rests, ended_now, wrote_by, read_by, fetch_noted, next_call, open_write, open_writes}
use Rattle.protocol.proofs.Model.{Code}
use Rattle.protocol.proofs.OpenWrites.{own, opens}

pub record Alike (B H : History) : Type 0 where
  pub clock : B.clock ≡ H.clock
  pub since : (s : ℕ) → B.since s ≡ H.since (suc s)
  pub doing : (s : ℕ) → B.doing s ≡ H.doing (suc s)
  pub ons : (s : ℕ) → B.ons s ≡ H.ons (suc s)
  pub finished : B.finished ≡ H.finished
  pub plain : B.plain ≡ H.plain

shift : {X : Type 0} (f g : ℕ → X) → ((s : ℕ) → f s ≡ g (suc s)) → (s : ℕ) (x y : X) → x ≡ y → (o : ℕ) → update f s x o ≡ update g (suc s) y (suc o)
shift f g h s x y e o = elim (cases_eq s o) [
  | inl z ↦ cond-true (eqb s o) _ _ (eq-eqb s o z) ∙ (e ∙ sym (cond-true (eqb (suc s) (suc o)) _ _ (eq-eqb (suc s) (suc o) (ap suc z))))
  | inr z ↦ cond-false (eqb s o) _ _ (ne_eqb s o z) ∙ (h o ∙ sym (cond-false (eqb (suc s) (suc o)) _ _ (ne_eqb (suc s) (suc o) (λ y. z (omega (arith, y))))))
]

module _ (B H : History) (h : Alike B H) (s : ℕ) where
  begins_alike : (d : Doing) → Alike (begins s d B) (begins (suc s) d H)
  begins_alike d = record { clock = h.clock; since = shift B.since H.since h.since s _ _ h.clock; doing = shift B.doing H.doing h.doing s d d refl; ons = shift B.ons H.ons h.ons s 0 0 refl; finished = h.finished; plain = h.plain }

  pub begin_alike : (d : Doing) (a : Answer) → Alike (begin_noted s d a B) (begin_noted (suc s) d a H)
  begin_alike d ok = begins_alike d
  begin_alike d on = h
  begin_alike d dropped = h
  begin_alike d (wrote v) = h
  begin_alike d (read v x) = h
  begin_alike d read_none = h
  begin_alike d used = h
  begin_alike d (refused e) = h

  rests_alike : (f g p q : List Operation) → f ≡ g → p ≡ q → Alike (rests s f p B) (rests (suc s) g q H)
  rests_alike f g p q e k = record { clock = h.clock; since = h.since; doing = shift B.doing H.doing h.doing s resting resting refl; ons = h.ons; finished = e; plain = k }

  same_op : (w : Bool) (v : ℕ) (x : Option Code) → ended_now w s v x B ≡ ended_now w (suc s) v x H
  same_op w v x = ap₂ (λ t c. record { write = w; begun = t; ended = c; version = v; value = x }) (h.since s) h.clock

  wrote_alike : (v : ℕ) (d : Doing) → Alike (wrote_by s v d B) (wrote_by (suc s) v d H)
  wrote_alike v resting = h
  wrote_alike v (reading b) = h
  wrote_alike v (writing x) = rests_alike _ _ _ _ (ap₂ ◌∷◌ (same_op true v _) h.finished) h.plain

  read_alike : (v : ℕ) (x : Option Code) (d : Doing) → Alike (read_by s v x d B) (read_by (suc s) v x d H)
  read_alike v x resting = h
  read_alike v x (writing y) = h
  read_alike v x (reading true) = rests_alike _ _ _ _ (ap₂ ◌∷◌ (same_op false v x) h.finished) h.plain
  read_alike v x (reading false) = rests_alike _ _ _ _ h.finished (ap₂ ◌∷◌ (same_op false v x) h.plain)

  read_doing : (v : ℕ) (x : Option Code) → Alike (read_by s v x (B.doing s) B) (read_by (suc s) v x (H.doing (suc s)) H)
  read_doing v x = subst (λ d. Alike (read_by s v x (B.doing s) B) (read_by (suc s) v x d H)) (h.doing s) (read_alike v x (B.doing s))

  pub fetch_alike : (a : Answer) → Alike (fetch_noted s a B) (fetch_noted (suc s) a H)
  fetch_alike ok = h
  fetch_alike on = record { clock = h.clock; since = h.since; doing = h.doing; ons = shift B.ons H.ons h.ons s _ _ (ap suc (h.ons s)); finished = h.finished; plain = h.plain }
  fetch_alike dropped = h
  fetch_alike (wrote v) = subst (λ d. Alike (wrote_by s v (B.doing s) B) (wrote_by (suc s) v d H)) (h.doing s) (wrote_alike v (B.doing s))
  fetch_alike (read v x) = read_doing v _
  fetch_alike read_none = read_doing 0 _
  fetch_alike used = rests_alike _ _ _ _ h.finished h.plain
  fetch_alike (refused e) = h

pub next_alike : (B H : History) → Alike B H → Alike (next_call B) (next_call H)
next_alike B H h = record { clock = ap suc h.clock; since = h.since; doing = h.doing; ons = h.ons; finished = h.finished; plain = h.plain }

own_open : (q : ℕ) (s v : ℕ) (H : History) (d : Doing) → own q (H.since s) (H.ons s) v d ≡ open_write q s v H d
own_open q s v H resting = refl
own_open q s v H (reading b) = refl
own_open q s v H (writing x) = refl

pub opens_open : (q : ℕ) (version : ℕ → ℕ) (B H : History) → Alike B H → (k : ℕ) → opens q B.since B.ons version B.doing k ≡ open_writes q version H k
opens_open q version B H h zero = refl
opens_open q version B H h (suc k) = ap₂ ◌++◌ (rw (h.since k, h.ons k, h.doing k) (own_open q (suc k) (version k) H (H.doing (suc k)))) (opens_open q version B H h k)
