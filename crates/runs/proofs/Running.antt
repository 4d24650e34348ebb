-- One more call of a list, and the last one.
use Rattle.std.proofs.Common.{◌≡◌, ℕ, ◌+◌, ◌<◌, ◌≤◌, List, [], ◌∷◌, ◌++◌, map, length, get_or, take, drop, set, sym, refl, ap, ◌∙◌, subst}
use Rattle.std.proofs.lemmas.List.{take_more_set, drop_more, drop_all, take_all, map_push, append_assoc, append-nil}
use Rattle.stores.specs.Provider.{Cell}
use Rattle.protocol.specs.Answers.{Call, Answer}
use Rattle.relay.specs.BankSteps.{BankStep}
use Rattle.relay.specs.RelayState.{RelayState, relay_step}
use Rattle.runs.specs.Runs.{run_answers, run_end, BankSteps}

-- f and t say what calls and answers mean; the calls are ps, and of the answers os the first i are written.
module _ {X Y : Type 0} (f : X → Call) (t : Y → Answer) (ps : List X) (os : List Y) (i : ℕ) where
  ahead : (p : X) → i < length ps → p ≡ get_or ps i p → drop i ps ≡ p ∷ drop (i + 1) ps
  ahead p lt is = drop_more ps i p lt ∙ ap (λ x. x ∷ drop (i + 1) ps) (sym is)

  pub answers_more : (all : List Answer) (R S : RelayState) (p : X) (o : Y) (new : List Y) → i < length ps → i < length os → p ≡ get_or ps i p → new ≡ set os i o → ◌≡◌ {A = RelayState × Answer} (S, t o) (relay_step R (f p)) →
      map t (take i os) ++ run_answers R (map f (drop i ps)) ≡ all → map t (take (i + 1) new) ++ run_answers S (map f (drop (i + 1) ps)) ≡ all
  answers_more all R S p o new lp lo is written step inv =
      let rest = map f (drop (i + 1) ps) in
      let a : run_answers R (map f (drop i ps)) ≡ t o ∷ run_answers S rest = ap (λ xs. run_answers R (map f xs)) (ahead p lp is) ∙ ap (λ (z : RelayState × Answer). z.1 ∷ run_answers z.0 rest) (sym step) in
      let b : map t (take (i + 1) new) ≡ map t (take i os) ++ t o ∷ [] = ap (λ l. map t (take (i + 1) l)) written ∙ (ap (map t) (take_more_set os i o lo) ∙ map_push t (take i os) o) in
      ap (λ xs. xs ++ run_answers S rest) b ∙ (append_assoc (map t (take i os)) (t o ∷ []) (run_answers S rest) ∙ (ap (λ xs. map t (take i os) ++ xs) (sym a) ∙ inv))

  pub end_more : (E R S : RelayState) (p : X) (a : Answer) → i < length ps → p ≡ get_or ps i p → ◌≡◌ {A = RelayState × Answer} (S, a) (relay_step R (f p)) → run_end R (map f (drop i ps)) ≡ E → run_end S (map f (drop (i + 1) ps)) ≡ E
  end_more E R S p a lp is step inv =
      ap (λ (z : RelayState × Answer). run_end z.0 (map f (drop (i + 1) ps))) step ∙ (sym (ap (λ xs. run_end R (map f xs)) (ahead p lp is)) ∙ inv)

  pub answers_all : (all : List Answer) (R : RelayState) → length ps ≤ i → length os ≤ i → map t (take i os) ++ run_answers R (map f (drop i ps)) ≡ all → map t os ≡ all
  answers_all all R lp lo inv =
      sym (append-nil (map t os)) ∙ (ap (λ xs. map t xs ++ []) (sym (take_all i os lo)) ∙ (ap (λ xs. map t (take i os) ++ run_answers R (map f xs)) (sym (drop_all i ps lp)) ∙ inv))

  pub end_all : (E R : RelayState) → length ps ≤ i → run_end R (map f (drop i ps)) ≡ E → R ≡ E
  end_all E R lp inv = ap (λ xs. run_end R (map f xs)) (sym (drop_all i ps lp)) ∙ inv

  -- what the calls make of the bank: one more, and none
  module _ {B : Type 0} (puts : B → ℕ → Cell → B → Type 0) (removes : B → ℕ → ℕ → B → Type 0) where
    pub bank_more : (R S : RelayState) (p : X) (a : Answer) (x next last : B) → i < length ps → p ≡ get_or ps i p → ◌≡◌ {A = RelayState × Answer} (S, a) (relay_step R (f p)) → BankStep puts removes R (f p) x next → BankSteps puts removes S (map f (drop (i + 1) ps)) next last → BankSteps puts removes R (map f (drop i ps)) x last
    bank_more R S p a x next last lp is step here h =
        subst (λ l. BankSteps puts removes R (map f l) x last) (sym (ahead p lp is))
        (next, (here, subst (λ (z : RelayState × Answer). BankSteps puts removes z.0 (map f (drop (i + 1) ps)) next last) step h))

    pub bank_all : (R : RelayState) (x : B) → length ps ≤ i → BankSteps puts removes R (map f (drop i ps)) x x
    bank_all R x lp = subst (λ l. BankSteps puts removes R (map f l) x x) (sym (drop_all i ps lp)) refl
