-- "Four idle builds are shut out": what such a build gives does not meet a call's relation, or not
-- demand 3; and with them a build that ignores the class. To be read after IdleBuilds and AllLoads.
use Rattle.std.specs.Prelude.{ℕ, ◌<◌, Bool, List, ◌≢◌, ◌≡◌, ℤ, pos, get_or, Ok, Err}
use Rattle.refusals.specs.declared.Refusal.{Refusal}
use Rattle.load.specs.declared.Load.{Load}
use Rattle.load.specs.Load.{most_rows}
use Rattle.load.specs.View.{view_of}
use Rattle.load.specs.Calls.{CheckLoad}
use Rattle.load_file.specs.Calls.{ReadLoad}
use Rattle.sheet.specs.Calls.{ReadSheet}
use Rattle.rules.specs.declared.Blame.{Blame}
use Rattle.rules.specs.declared.Outcome.{Outcome}
use Rattle.rules.specs.Margins.{margin_at, margin_in}
use Rattle.rules.specs.Blame.{nobody, blame_at}
use Rattle.bound.specs.Calls.{MarginsOf, VerdictOf, BlamesOf}
use Rattle.bench.specs.declared.Bench.{Bench}
use Rattle.bench.specs.declared.Moved.{Moved}
use Rattle.bench.specs.declared.Ran.{Ran}
use Rattle.bench.specs.Held.{next_move}
use Rattle.bench.specs.Calls.{Fresh, NextMove, Runs}
use Rattle.demands.specs.LoadA.{load_a}
use Rattle.demands.specs.LoadB.{load_b}
use Rattle.demands.specs.LoadUrgent.{load_urgent}
use Rattle.demands.specs.SheetsToTry.{sheet_a}
use Rattle.demands.specs.Demand3.{Run}
use Rattle.demands.specs.IdleBuilds.{
  refuses_file,
  refuses_move,
  fixed_verdict,
  moves_nothing,
  only_idles,
  invents_count,
  invents_ends,
  invents_margins,
  invents_blames,
}
use Rattle.demands.specs.Notation.{bytes_of}

-- the idle builds are shut out
pub record ShutOut : Type 0 where
  -- one that refuses all: by 'exactly then' load A, its file and its sheet are not refused
  pub refuses-files : (refusal : Refusal)
      → ReadLoad (bytes_of load_a.file) (refuses_file refusal (bytes_of load_a.file)) → ⊥
  pub refuses-sheets : (refusal : Refusal) → ReadSheet sheet_a (refuses_file refusal sheet_a) → ⊥
  pub refuses-loads : (refusal : Refusal) → CheckLoad load_a.load (Err refusal) → ⊥
  -- and by demand 3 no move is, in the run of any load that is not refused
  pub refuses-moves : (load : Load) → CheckLoad load (Ok tt) → (run : Run load) (n : ℕ)
      → (refusal : Refusal) → run.moved n ≡ refuses_move refusal load (run.bench n) → ⊥
  -- one with a fixed verdict: A's is no, and B's is yes
  pub fixed-verdict : (verdict : Bool)
      → ((load : Load) → CheckLoad load (Ok tt) → VerdictOf load (fixed_verdict verdict load)) → ⊥
  -- or schedule: A has 6 slots, and the load of no rows has none
  pub fixed-schedule : (r : Ran) → ((load : Load) → CheckLoad load (Ok tt) → Runs load (Ok r)) → ⊥
  -- or that moves nothing: A's first move takes 2 ticks
  pub moves-nothing : (outcome : Outcome) (lamps count : ℕ) (bench : Bench) → Fresh bench
      → NextMove load_a.load bench (moves_nothing outcome lamps count load_a.load bench) → ⊥
  -- one that makes all starts in its first move: after A's, row 2 has finished nothing
  pub starts-at-once : (bench : Bench) (r : Moved) → Fresh bench → 0 < get_or r.bench.finished 1 0
      → NextMove load_a.load bench r → ⊥
  -- and then only idles: A's second move is a start
  pub then-idles : (bench : Bench) (r : Moved) → Fresh bench → NextMove load_a.load bench r
      → NextMove load_a.load r.bench (only_idles r.bench) → ⊥
  -- one that ignores the class: A with row 3 urgent does not start as A does (2026-05)
  pub ignores-class : (bench : Bench) → Fresh bench
      → NextMove load_urgent.load bench (next_move load_a.load bench) → ⊥
  -- one with invented lamp counts, of any load and bench
  pub invents-count : (load : Load) (bench : Bench) (n : ℕ) → n ≢ (next_move load bench).count
      → NextMove load bench (invents_count n load bench) → ⊥
  -- as B's first move opens one window
  pub counts-one : (bench : Bench) (n : ℕ) → Fresh bench → n ≢ 1
      → NextMove load_b.load bench (invents_count n load_b.load bench) → ⊥
  -- or ends
  pub invents-ends : (load : Load) (bench : Bench) (ends : List ℕ)
      → ends ≢ (next_move load bench).bench.end
      → NextMove load bench (invents_ends ends load bench) → ⊥
  -- as A's first step ends at 2
  pub ends-at-two : (bench : Bench) (ends : List ℕ) → Fresh bench → get_or ends 0 0 ≢ 2
      → NextMove load_a.load bench (invents_ends ends load_a.load bench) → ⊥
  -- or margins, at any place of any accepted load
  pub invents-margins : (load : Load) → CheckLoad load (Ok tt) → (given : List ℤ) (i : ℕ)
      → i < most_rows → margin_in given i ≢ margin_at (view_of load) i
      → MarginsOf load (invents_margins given load) → ⊥
  -- as A's first margin is 1
  pub margin-of-one : (given : List ℤ) → margin_in given 0 ≢ pos 1
      → MarginsOf load_a.load (invents_margins given load_a.load) → ⊥
  -- or blames, at any place of any accepted load
  pub invents-blames : (load : Load) → CheckLoad load (Ok tt) → (given : List Blame) (i : ℕ)
      → i < most_rows → get_or given i nobody ≢ blame_at (view_of load) i
      → BlamesOf load (invents_blames given load) → ⊥
  -- as A's first row is held up by place 1 and row 1
  pub blame-of-one : (given : List Blame) → get_or given 0 nobody ≢ record { place = 1; row = 1 }
      → BlamesOf load_a.load (invents_blames given load_a.load) → ⊥
