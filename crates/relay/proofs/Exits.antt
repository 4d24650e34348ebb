-- The exit of a `?`: the refusal is handed on, and what holds where it is answered holds.
use Rattle.std.proofs.Common.{◌≡◌, IsErrAnd, Err, Result, ap, ◌∙◌}
use Rattle.std.proofs.lemmas.Result.{err_from_is_err_and}
use Rattle.values.specs.declared.refusal.Refusal.{Refusal}
use Rattle.protocol.specs.Answers.{Answer}

pub handed_on : {T : Type 0} (e : Refusal) (r : Result T Refusal) → IsErrAnd r (λ y. y ≡ e) → r ≡ Err e
handed_on e r h = let p = err_from_is_err_and r h in p.1 ∙ ap Err p.2

pub refused_as : {T X : Type 0} (x : X) (says : Result T Refusal → Answer) (e : Refusal) (r : Result T Refusal) (z : X × Answer) → IsErrAnd r (λ y. y ≡ e) → (x, says (Err e)) ≡ z → (x, says r) ≡ z
refused_as x says e r z h is = ap (λ a. (x, says a)) (handed_on e r h) ∙ is
