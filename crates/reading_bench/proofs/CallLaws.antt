-- Any two results that meet a call's relation are equal: the number, and what the output holds afterwards.
use Prim.Native.Nat.{ℕ}
use mathlib.Core.List.{List}
use mathlib.Core.Path.{◌≡◌, ap, sym, ◌∙◌}
use Rattle.refusals.specs.Checked.{Checked}
use Rattle.refusals.specs.Refusals.{number_given}
use Rattle.refusals.proofs.CallLaws.{Given-unique-finding, Given-unique-output}
use Rattle.reading_bench.specs.Calls.{Numbered, BenchBound, BenchVerdict, BenchMargins, BenchSchedule}

pub Numbered-unique : (finding : Checked) (answer out : List ℕ) (r s : ℕ) (after later : List ℕ)
    → Numbered finding answer out r after → Numbered finding answer out s later → (r ≡ s) × (after ≡ later)
Numbered-unique finding answer out r s after later p q = (
  p.number_is
      ∙ ap number_given (Given-unique-finding finding answer out p.found q.found after later p.given q.given)
      ∙ sym q.number_is,
  Given-unique-output finding answer out p.found q.found after later p.given q.given,
)

pub BenchBound-unique : (bs out : List ℕ) (r s : ℕ) (after later : List ℕ)
    → BenchBound bs out r after → BenchBound bs out s later → (r ≡ s) × (after ≡ later)
BenchBound-unique bs out = Numbered-unique _ _ out

pub BenchVerdict-unique : (bs out : List ℕ) (r s : ℕ) (after later : List ℕ)
    → BenchVerdict bs out r after → BenchVerdict bs out s later → (r ≡ s) × (after ≡ later)
BenchVerdict-unique bs out = Numbered-unique _ _ out

pub BenchMargins-unique : (bs out : List ℕ) (r s : ℕ) (after later : List ℕ)
    → BenchMargins bs out r after → BenchMargins bs out s later → (r ≡ s) × (after ≡ later)
BenchMargins-unique bs out = Numbered-unique _ _ out

pub BenchSchedule-unique : (bs out : List ℕ) (r s : ℕ) (after later : List ℕ) → BenchSchedule bs out r after
    → BenchSchedule bs out s later → (r ≡ s) × (after ≡ later)
BenchSchedule-unique bs out = Numbered-unique _ _ out
