-- The exit of a `?` that passes a refusal on: what is given is that refusal, and nothing else.
use Rattle.std.proofs.Common.{◌≡◌, ◌∙◌, ap}
use Rattle.std.specs.Prelude.{Result, Err, IsErrAnd}
use Rattle.std.proofs.lemmas.Result.{err_from_is_err_and}
use Rattle.refusals.specs.declared.Refusal.{Refusal}

pub passed_on : {A : Type 0} (r : Result A Refusal) (refusal : Refusal) → IsErrAnd r (λ given. given ≡ refusal)
    → r ≡ Err refusal
passed_on r refusal is = let p = err_from_is_err_and r is in p.1 ∙ ap Err p.2
