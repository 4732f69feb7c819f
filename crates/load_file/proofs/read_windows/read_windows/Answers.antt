-- `read_windows` reads one window a turn. The first that is refused decides.
use Rattle.std.proofs.Common.{◌+◌, ◌*◌, ◌≡◌, ◌∙◌, ◌++◌, add-one, ap, arith, refl, replicate, sym}
use Rattle.counting.proofs.lists.ListLaws.{filled_none, filled-stored}
use Rattle.std.specs.Prelude.{Ok}
use Rattle.refusals.specs.FirstMet.{first_met, first_fault_to}
use Rattle.refusals.proofs.FirstMetLaws.{first_fault_to-zero, first_fault_to-one_more, first_fault_to-refused}
use Rattle.refusals.proofs.GivenLaws.{given-refused, given-good, given-is}
use Rattle.refusals.proofs.PassedOn.{passed_on}
use Rattle.load.specs.Load.{most_windows, no_window}
use Rattle.load.specs.Faults.{window_numbers}
use Rattle.load_records.specs.Records.{window_kind}
use Rattle.load_file.specs.Places.{window_in, windows_said}
use Rattle.load_file.specs.Reading.{due_tests, window_fault_in, windows_fault}
use Rattle.load_file.proofs.faults.PartLaws.{window-none, window_fault-read}
use Rattle.load_file.proofs.read_windows.read_windows.Goals as goal
use Rattle.load_file.proofs.read_windows.read_windows.Goals.{After-read_window}

pub loop-k-init : goal.loop-k-init
loop-k-init c =
    record {
      no_fault = first_fault_to-zero _;
      read =
          ap (replicate most_windows) (window-none c.default-kept.result c.default-kept.ensures)
          ∙ sym (filled_none (λ k. window_in c.args.bytes.now (c.args.from + 6 * k)) most_windows no_window);
      known = refl;
    }

-- what is found in a turn is the fault of its window
found : (c : After-read_window)
    → first_met
    (due_tests window_kind c.args.bytes.now (c.args.from + 6 * c.loop-k.k)
    ++ window_numbers c.args.row (window_in c.args.bytes.now (c.args.from + 6 * c.loop-k.k)) c.loop-k.«before»)
    ≡ window_fault_in c.args.bytes.now c.args.at c.loop-k.k
found c =
    let bs = c.args.bytes.now in
    let place = c.args.from + 6 * c.loop-k.k in
    ap (λ row. first_met (due_tests window_kind bs place ++ window_numbers row (window_in bs place) c.loop-k.«before»))
    c.requires.from_bound.2
    ∙ window_fault-read bs c.args.at c.args.from c.loop-k.k c.loop-k.«before» c.requires.from_bound.1
    (omega (arith, c.requires.count_value.0))
    c.loop-k.invariant.known

pub returns-in_err-window : goal.returns-in_err-window
returns-in_err-window c =
    let bs = c.args.bytes.now in
    let k = c.loop-k.k in
    let refused = sym (found (goal.at.returns-in_err-window c).After-read_window)
    ∙ given-refused _ (window_in bs (c.args.from + 6 * k)) _ c.in_err-window.ensures in
    let decides =
    first_fault_to-refused (window_fault_in bs c.args.at) (windows_said bs c.args.at) k _
    (omega (arith, c.requires.count_value.0)) c.loop-k.invariant.no_fault refused in
    passed_on _ _ c.from_residual.ensures.1 ∙ rw decides

pub loop-k-preserved : goal.loop-k-preserved
loop-k-preserved c =
    let bs = c.args.bytes.now in
    let k = c.loop-k.k in
    let told = c.in_ok-window.ensures in
    let is = given-is _ (window_in bs (c.args.from + 6 * k)) _ told in
    let good = sym (found (goal.at.loop-k-preserved c).After-read_window)
    ∙ given-good _ (window_in bs (c.args.from + 6 * k)) _ told in
    record {
      no_fault = first_fault_to-one_more (window_fault_in bs c.args.at) k c.loop-k.invariant.no_fault good;
      read =
          filled-stored (λ k. window_in bs (c.args.from + 6 * k)) k most_windows no_window _ _ c.loop-k.invariant.read
          is (omega arith);
      known = rw add-one (ap (λ w. w.last) is);
    }

-- every window is read
pub returns : goal.returns
returns c =
    let bs = c.args.bytes.now in
    let e : c.loop-k.k ≡ c.args.count = omega arith in
    let good : windows_fault bs c.args.at ≡ Ok tt =
    ap (first_fault_to (window_fault_in bs c.args.at)) (sym (e ∙ c.requires.count_value.0))
    ∙ c.loop-k.invariant.no_fault in
    rw (good, c.loop-k.invariant.read, e)
