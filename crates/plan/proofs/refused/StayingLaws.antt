-- Until when a step stays refused, by what the walk came to: one law for each way out.
use Prim.Native.Nat.{ℕ, ◌+◌, ◌≤◌, ◌<◌}
use mathlib.Core.Bool.{true, false}
use mathlib.Core.List.{List}
use mathlib.Core.Path.{◌≡◌, ap, sym, ◌∙◌}
use borrow.Author.Tests.{lt-ltb, le-ltb}
use lib.ListN.{drop}
use Rattle.counting.specs.Lists.{member_at}
use Rattle.rules.specs.Plan.{Jobs, in_time_by}
use Rattle.plan.specs.inner.Walks.{Walk, others_in, walk_in}
use Rattle.plan.specs.inner.Passing.{never}
use Rattle.plan.specs.declared.Stay.{Stay}
use Rattle.plan.specs.inner.Staying.{end_behind, own_until, behind_until, until_by, stays_until}

module _ (a : Jobs) (rows : List ℕ) (i : ℕ) (stay : Stay) (w : Walk)
    (is : w ≡ walk_in a i stay.own rows 0 (stay.clock + stay.cost) 0) where
  stays_until-by : stays_until a rows i stay ≡ until_by a rows i stay w
  unfolding stays_until
  stays_until-by = ap (until_by a rows i stay) (sym is)

  -- a row that stands before is late
  pub stays_until-late : w.late ≡ true → stays_until a rows i stay ≡ never
  stays_until-late e = stays_until-by ∙ rw e

  module _ (in-time : w.late ≡ false) (end : ℕ) (end_is : end ≡ end_behind stay w) where
    -- its own window is late
    pub stays_until-own : stay.own < end → stays_until a rows i stay ≡ own_until stay w
    stays_until-own h = stays_until-by ∙ rw (in-time, ← end_is, lt-ltb stay.own end h)

    module _ (h : end ≤ stay.own) where
      -- all are in time
      pub stays_until-passes : in_time_by a end (others_in i (drop w.place rows)) ≡ true
          → stays_until a rows i stay ≡ stay.clock
      stays_until-passes e = stays_until-by ∙ rw (in-time, ← end_is, le-ltb stay.own end h, e)

      -- a row behind is late
      pub stays_until-behind : in_time_by a end (others_in i (drop w.place rows)) ≡ false
          → stays_until a rows i stay
          ≡ behind_until i stay (member_at rows w.place) (a.due (member_at rows w.place))
      stays_until-behind e = stays_until-by ∙ rw (in-time, ← end_is, le-ltb stay.own end h, e)
