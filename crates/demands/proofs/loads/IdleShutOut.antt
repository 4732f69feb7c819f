-- The idle builds are shut out: on loads A and B the definitions compute to something else, and demand 3 lets no move
-- be refused.
use Prim.Native.Nat.{ℕ, ◌<◌}
use mathlib.Core.Bool.{Bool, true, false}
use mathlib.Core.Path.{◌≡◌, refl, ap, sym, ◌∙◌}
use native.Mathlib.Omega.{arith}
use lib.IntN.{pos}
use lib.ListN.{length, get_or}
use Rattle.counting.proofs.tests.TestLaws.{true-false}
use Rattle.counting.proofs.lists.ListLaws.{get_or-list_to}
use Rattle.std.specs.Prelude.{List, Ok, Err}
use Rattle.refusals.specs.Refusals.{number_of}
use Rattle.refusals.specs.Given.{found_in, given as alone}
use Rattle.refusals.proofs.FirstMetLaws.{good-refused}
use Rattle.load.specs.declared.Load.{Load}
use Rattle.load.specs.Load.{most_rows}
use Rattle.load.specs.View.{view_of}
use Rattle.load.specs.Check.{check_load}
use Rattle.rules.specs.declared.Blame.{Blame}
use Rattle.rules.specs.Outcomes.{told_by}
use Rattle.rules.specs.Margins.{margin_at, margins, margin_in}
use Rattle.rules.specs.Blame.{nobody, blame_at, blames}
use Rattle.rules.specs.State.{fresh}
use Rattle.bound.specs.declared.Blamed.{Blamed}
use Rattle.bound.specs.Calls.{BlamesOf, VerdictOf}
use Rattle.bench.specs.declared.Bench.{Bench}
use Rattle.bench.specs.declared.Moved.{Moved}
use Rattle.bench.specs.declared.Ran.{Ran}
use Rattle.bench.specs.Held.{bench_of, next_move}
use Rattle.bench.specs.Calls.{Fresh, NextMove, Runs}
use Rattle.bench.proofs.running.RunsLaws.{Runs-count}
use Rattle.demands.specs.LoadsToTry.{Sound, Answers, answers_for}
use Rattle.demands.specs.LoadA.{load_a}
use Rattle.demands.specs.LoadB.{load_b}
use Rattle.demands.specs.LoadUrgent.{load_urgent}
use Rattle.demands.specs.SmallLoads.{load_empty}
use Rattle.demands.specs.AllLoads.{SoundHolds}
use Rattle.demands.specs.IdleBuilds.{fixed_verdict, invents_blames}
use Rattle.demands.specs.ShutOut.{ShutOut}
use Rattle.demands.proofs.loads.Computing.{computing}
use Rattle.demands.proofs.loads.LoadsHold.{a-holds, b-holds, empty_holds}
use Rattle.demands.proofs.loads.SheetsHold.{sheets-hold}
use Rattle.demands.proofs.Demand1Holds.{demand1}
use Rattle.demands.proofs.Demand2Holds.{demand2}
use Rattle.demands.proofs.Demand3Holds.{demand3}

-- what a load's first move hands back
abbrev first : Load → Moved
first load = next_move load (bench_of fresh)

-- how many starts a move makes
abbrev starts_in : Moved → ℕ
starts_in r = length (told_by r.outcome).starts

fresh-clock : (bench_of fresh).clock ≡ 0
unfolding bench_of fresh
fresh-clock = refl

-- on load A: the clock, what row 2 has finished, the first end, the second move, and the first margin
a-clock : (first load_a.load).bench.clock ≡ 2
unfolding computing next_move bench_of load_a
a-clock = refl

a-finished : get_or (first load_a.load).bench.finished 1 0 ≡ 0
unfolding computing next_move bench_of load_a
a-finished = refl

a-end : get_or (first load_a.load).bench.end 0 0 ≡ 2
unfolding computing next_move bench_of load_a
a-end = refl

a-margin : margin_in (margins (view_of load_a.load)) 0 ≡ pos 1
unfolding computing margins load_a
a-margin = refl

a-blame : get_or (blames (view_of load_a.load)) 0 nobody ≡ record { place = 1; row = 1 }
unfolding computing blames load_a
a-blame = refl

a_second : starts_in (next_move load_a.load (first load_a.load).bench) ≡ 1
unfolding computing next_move bench_of load_a
a_second = refl

-- on load B: the lamps of the first move
b-count : (first load_b.load).count ≡ 1
unfolding computing next_move bench_of load_b
b-count = refl

-- on A with row 3 urgent: what row 1 has finished after the first move, and on A
urgent-finished : get_or (first load_urgent.load).bench.finished 0 0 ≡ 0
unfolding computing next_move bench_of load_urgent
urgent-finished = refl

a-begins : get_or (first load_a.load).bench.finished 0 0 ≡ 1
unfolding computing next_move bench_of load_a
a-begins = refl

-- how many slots a worked load has
slots-of : (e : Sound) → SoundHolds e → (r : Ran) → Runs e.load (Ok r) → r.count ≡ length e.answers.slots
unfolding answers_for
slots-of e h r m = Runs-count e.load r m ∙ ap (λ (a : Answers). length a.slots) h.answered

a-slots : length load_a.answers.slots ≡ 6
unfolding load_a
a-slots = refl

no-slots : length load_empty.answers.slots ≡ 0
unfolding load_empty
no-slots = refl

-- the verdict of a worked load
verdict-of : (e : Sound) → SoundHolds e → (v : Bool) → VerdictOf e.load (fixed_verdict v e.load)
    → v ≡ e.answers.verdict-of
unfolding answers_for
verdict-of e h v m =
    demand2.verdicts e.load v (sym (ap (λ c. alone c v) h.checks) ∙ m)
    ∙ ap (λ (a : Answers). a.verdict-of) h.answered

a-no : load_a.answers.verdict-of ≡ false
unfolding load_a
a-no = refl

b-yes : load_b.answers.verdict-of ≡ true
unfolding load_b
b-yes = refl

-- the margin at a place of all margins
margins-at : (load : Load) (i : ℕ) → i < most_rows → margin_in (margins (view_of load)) i ≡ margin_at (view_of load) i
unfolding margins
margins-at load i l = get_or-list_to (margin_at (view_of load)) most_rows i (pos 0) l

-- and the blame
blames-at : (load : Load) (i : ℕ) → i < most_rows → get_or (blames (view_of load)) i nobody ≡ blame_at (view_of load) i
unfolding blames
blames-at load i l = get_or-list_to (blame_at (view_of load)) most_rows i nobody l

-- invented blames, of a load that passes its check
abbrev blamed_for : Load → List Blame → Blamed
blamed_for load given = record { margins = margins (view_of load); blames = given }

invented : (load : Load) (given : List Blame) → check_load load ≡ Ok tt → BlamesOf load (invents_blames given load)
    → BlamesOf load (Ok (blamed_for load given))
invented load given good m = sym (ap (λ c. alone c (blamed_for load given)) good) ∙ m

-- a relation at a fresh bench
module _ (load : Load) (bench : Bench) (f : Fresh bench) (r : Moved) (m : NextMove load bench r) where
  first-is : r ≡ first load
  first-is = m ∙ ap (next_move load) f

pub shut_out : ShutOut
shut_out =
    record {
      refuses-files = λ refusal m.
          good-refused _ refusal (ap found_in (m ∙ a-holds.reads)) refl;
      refuses-sheets = λ refusal m.
          good-refused _ refusal (ap found_in (m ∙ sheets-hold.a.reads)) refl;
      refuses-loads = λ refusal m. good-refused (Err refusal) refusal (m ∙ a-holds.checks) refl;
      refuses-moves = λ load good run n refusal e.
          omega (
            arith,
            (demand3.of-loads load good run).numbers n,
            ap (λ (r : Moved). (told_by r.outcome).number) e,
            (demand1.numbered refusal (number_of refusal) refl).least,
          );
      fixed-verdict = λ v m.
          true-false v (verdict-of load_b b-holds v (m load_b.load (sym b-holds.checks)) ∙ b-yes)
          (verdict-of load_a a-holds v (m load_a.load (sym a-holds.checks)) ∙ a-no);
      fixed-schedule = λ r m. omega (
        arith,
        slots-of load_a a-holds r (m load_a.load (sym a-holds.checks)),
        a-slots,
        slots-of load_empty empty_holds r (m load_empty.load (sym empty_holds.checks)),
        no-slots,
      );
      moves-nothing = λ outcome lamps count bench f m. omega (
        arith,
        ap (λ (b : Bench). b.clock) f,
        fresh-clock,
        ap (λ (r : Moved). r.bench.clock) (first-is load_a.load bench f _ m),
        a-clock,
      );
      starts-at-once = λ bench r f more m. omega (
        arith,
        ap (λ (x : Moved). get_or x.bench.finished 1 0) (first-is load_a.load bench f r m),
        a-finished,
      );
      then-idles = λ bench r f m n. omega (
        arith,
        ap (λ (x : Moved). starts_in x) n,
        ap (λ (x : Moved). starts_in (next_move load_a.load x.bench)) (first-is load_a.load bench f r m),
        a_second,
      );
      ignores-class = λ bench f m. omega (
        arith,
        ap (λ (x : Moved). get_or x.bench.finished 0 0) (first-is load_urgent.load bench f _ m),
        ap (λ (b : Bench). get_or (next_move load_a.load b).bench.finished 0 0) f,
        urgent-finished,
        a-begins,
      );
      invents-count = λ load bench n ne m. ne (ap (λ (r : Moved). r.count) m);
      counts-one = λ bench n f ne m.
          ne (ap (λ (r : Moved). r.count) (first-is load_b.load bench f _ m) ∙ b-count);
      invents-ends = λ load bench ends ne m. ne (ap (λ (r : Moved). r.bench.end) m);
      ends-at-two = λ bench ends f ne m.
          ne (ap (λ (r : Moved). get_or r.bench.end 0 0) (first-is load_a.load bench f _ m) ∙ a-end);
      invents-margins = λ load good given i l ne m.
          ne
          (ap (λ ms. margin_in ms i) (demand2.margins-are load given (sym (ap (λ c. alone c given) (sym good)) ∙ m))
          ∙ margins-at load i l);
      margin-of-one = λ given ne m.
          ne
          (ap (λ ms. margin_in ms 0)
          (demand2.margins-are load_a.load given (sym (ap (λ c. alone c given) a-holds.checks) ∙ m))
          ∙ a-margin);
      invents-blames = λ load good given i l ne m.
          ne
          (ap (λ bs. get_or bs i nobody)
          (demand2.blames-are load (blamed_for load given) (invented load given (sym good) m))
          ∙ blames-at load i l);
      blame-of-one = λ given ne m.
          ne
          (ap (λ bs. get_or bs 0 nobody)
          (demand2.blames-are load_a.load (blamed_for load_a.load given) (invented load_a.load given a-holds.checks m))
          ∙ a-blame);
    }
