-- Until when the plan refuses a step after which the row has an open window: computed from the open
-- rows in the stack's order. To be read after Walks.
use Rattle.std.specs.Prelude.{ℕ, ◌+◌, ◌-◌, max, min, Bool, cond, ◌||◌, List, ltb, drop}
use Rattle.counting.specs.Lists.{member_at}
use Rattle.rules.specs.Plan.{Jobs, in_time_by}
use Rattle.plan.specs.declared.Stay.{Stay}
use Rattle.plan.specs.inner.Passing.{never}
use Rattle.plan.specs.inner.Walks.{Walk, others_in, walk_in}

-- the moment that is so long before another, at most that past all others
abbrev pub moment_before : ℕ → ℕ → ℕ
moment_before end long = min (end - long) never

-- a step after which the row's window is open
abbrev pub stay_of : Bool → ℕ → ℕ → ℕ → ℕ → ℕ → ℕ → Stay
stay_of opened clock cost wait rest limit own =
    record {
      opened = opened;
      clock = clock;
      cost = cost;
      wait = wait;
      rest = rest;
      limit = limit;
      own = own;
    }

-- when the row's window is finished, behind the rows of a walk
abbrev pub end_behind : Stay → Walk → ℕ
end_behind stay w = max w.time (stay.clock + stay.cost + stay.wait) + stay.rest

-- until when the step stays refused where its own window is late
abbrev pub own_until : Stay → Walk → ℕ
own_until stay w =
    cond (stay.opened || ltb stay.limit (stay.cost + stay.rest + w.work)) never
    (moment_before (end_behind stay w) stay.limit)

-- from when on row i would be due behind row b
abbrev pub due_behind : ℕ → ℕ → ℕ → ℕ
due_behind i b due = cond (ltb i b) (due + 1) due

-- until when it stays refused where a row behind it is late, b the first of those
abbrev pub behind_until : ℕ → Stay → ℕ → ℕ → ℕ
behind_until i stay b due =
    cond stay.opened never (moment_before (due_behind i b due) stay.limit)

-- until when it stays refused, and the clock where it passes, by what the walk came to
abbrev pub until_by : Jobs → List ℕ → ℕ → Stay → Walk → ℕ
until_by jobs rows i stay w =
    cond w.late never
    (cond (ltb stay.own (end_behind stay w)) (own_until stay w)
    (cond (in_time_by jobs (end_behind stay w) (others_in i (drop w.place rows))) stay.clock
    (behind_until i stay (member_at rows w.place) (jobs.due (member_at rows w.place)))))

-- until when it stays refused, and the clock where it passes
unfoldable pub stays_until : Jobs → List ℕ → ℕ → Stay → ℕ
stays_until jobs rows i stay =
    until_by jobs rows i stay (walk_in jobs i stay.own rows 0 (stay.clock + stay.cost) 0)
