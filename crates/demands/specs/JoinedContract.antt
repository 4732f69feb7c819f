-- "What the contracts have to say": a contract that asks nothing of the caller and is one promise,
-- no more and no less. To be read before Joined.
use Rattle.std.specs.Prelude.{ℕ, List, ◌≡◌}
use seplogic.Ra.Ura.{Ura}
use base.Logic.{SProp, emp}
use types.Logic.{Logic}
use prog.Memory.{Memory}
use prog.Routine.{Routine}
use contract.Lifetimes.{Lfts}
use contract.Monad.{Fun, fact}
use denote.Triple.Clauses.{Ended, AtExit, closing}
use denote.Triple.Entry.{Args, Res}
use denote.Triple.Spec.{Spec}
use Rattle.demands.specs.FileCalls.{Wrote}

-- what may be promised: of what a call is given (a), of what it gives back (r), and of what was
-- lent to it, afterwards (s)
abbrev pub Promise : Ended → Type 1
Promise call =
    (κs : Lfts call.signature.lifetimes) → Args call.signature κs
    → Res call.signature κs → AtExit call κs → Type 0

-- what is proved of a call's code, as each crate's contracts state it: over any machine
abbrev pub Contract : Ended → Type 2
Contract call =
    (M : Type 1) (𝓤 : Ura M) (𝓛 : Logic 𝓤) → (Memory → SProp 𝓤)
    → (Routine → Fun 𝓤) → Spec 𝓤 call.signature

-- the contract that asks nothing (`emp`), and promises this alone (`fact`, in contracts `⌜ .. ⌝`)
abbrev pub asks_nothing : (call : Ended) → Promise call → Contract call
asks_nothing call promise M 𝓤 𝓛 mem run =
    closing 𝓛 call (λ κs a. record {
      ghost = Unit {0};
      requires = λ _. emp 𝓤;
      ensures = λ _ r s. fact 𝓤 (promise κs a r s);
    })

-- a call's contract is that
abbrev pub Says : (call : Ended) → Contract call → Promise call → Type 2
Says call contract promise = contract ≡ asks_nothing call promise

-- a relation, taken out of the list of all calls
pub record Relation (A : Type 0) (listed : A → Type 0) : Type 1 where
  pub meets : A → Type 0
  pub same : meets ≡ listed

-- what a writing call gives, and what its output holds afterwards
abbrev pub wrote : {A : Type 0} → A → List ℕ → Wrote A
wrote gives after = record { gives = gives; after = after }
