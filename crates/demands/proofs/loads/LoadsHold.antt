-- The loads to try hold: every claim is decided by computing, from the bytes of the file on.
use mathlib.Core.Path.{refl}
use Rattle.demands.specs.LoadsToTry.{answers_for, glimpse_after}
use Rattle.demands.specs.LoadA.{load_a}
use Rattle.demands.specs.LoadB.{load_b}
use Rattle.demands.specs.LoadB9.{load_b9}
use Rattle.demands.specs.LoadPhase.{load_phase8, load_phase7}
use Rattle.demands.specs.SmallLoads.{load_unequal, load_waits0, load_empty}
use Rattle.demands.specs.FaultyLoads.{load_b7, load_twins, load_twins_in_one_box, load_factory}
use Rattle.demands.specs.LoadUrgent.{load_urgent}
use Rattle.demands.specs.AllLoads.{SoundHolds, FaultyHolds, LoadsHold}
use Rattle.demands.proofs.loads.Computing.{computing}

pub a-holds : SoundHolds load_a
unfolding computing answers_for glimpse_after load_a
a-holds =
    record {
      reads = refl;
      writes = refl;
      checks = refl;
      answered = refl;
      seen = refl;
      margined = refl;
      scheduled = refl;
      prints = refl;
      prints-blames = refl;
    }

pub b-holds : SoundHolds load_b
unfolding computing answers_for glimpse_after load_b
b-holds =
    record {
      reads = refl;
      writes = refl;
      checks = refl;
      answered = refl;
      seen = refl;
      margined = refl;
      scheduled = refl;
      prints = refl;
      prints-blames = refl;
    }

b9-holds : SoundHolds load_b9
unfolding computing answers_for glimpse_after load_b9
b9-holds =
    record {
      reads = refl;
      writes = refl;
      checks = refl;
      answered = refl;
      seen = refl;
      margined = refl;
      scheduled = refl;
      prints = refl;
      prints-blames = refl;
    }

phase8-holds : SoundHolds load_phase8
unfolding computing answers_for glimpse_after load_phase8
phase8-holds =
    record {
      reads = refl;
      writes = refl;
      checks = refl;
      answered = refl;
      seen = refl;
      margined = refl;
      scheduled = refl;
      prints = refl;
      prints-blames = refl;
    }

phase7-holds : SoundHolds load_phase7
unfolding computing answers_for glimpse_after load_phase7
phase7-holds =
    record {
      reads = refl;
      writes = refl;
      checks = refl;
      answered = refl;
      seen = refl;
      margined = refl;
      scheduled = refl;
      prints = refl;
      prints-blames = refl;
    }

unequal-holds : SoundHolds load_unequal
unfolding computing answers_for glimpse_after load_unequal
unequal-holds =
    record {
      reads = refl;
      writes = refl;
      checks = refl;
      answered = refl;
      seen = refl;
      margined = refl;
      scheduled = refl;
      prints = refl;
      prints-blames = refl;
    }

waits0-holds : SoundHolds load_waits0
unfolding computing answers_for glimpse_after load_waits0
waits0-holds =
    record {
      reads = refl;
      writes = refl;
      checks = refl;
      answered = refl;
      seen = refl;
      margined = refl;
      scheduled = refl;
      prints = refl;
      prints-blames = refl;
    }

pub empty_holds : SoundHolds load_empty
unfolding computing answers_for glimpse_after load_empty
empty_holds =
    record {
      reads = refl;
      writes = refl;
      checks = refl;
      answered = refl;
      seen = refl;
      margined = refl;
      scheduled = refl;
      prints = refl;
      prints-blames = refl;
    }

b7-holds : FaultyHolds load_b7
unfolding computing load_b7
b7-holds = record { reads = refl; checks = refl; numbered = refl; prints = refl; prints-blames = refl }

twins-holds : FaultyHolds load_twins
unfolding computing load_twins
twins-holds = record { reads = refl; checks = refl; numbered = refl; prints = refl; prints-blames = refl }

one-box-holds : FaultyHolds load_twins_in_one_box
unfolding computing load_twins_in_one_box
one-box-holds = record { reads = refl; checks = refl; numbered = refl; prints = refl; prints-blames = refl }

factory-holds : FaultyHolds load_factory
unfolding computing load_factory
factory-holds = record { reads = refl; checks = refl; numbered = refl; prints = refl; prints-blames = refl }

pub urgent-holds : SoundHolds load_urgent
unfolding computing answers_for glimpse_after load_urgent
urgent-holds =
    record {
      reads = refl;
      writes = refl;
      checks = refl;
      answered = refl;
      seen = refl;
      margined = refl;
      scheduled = refl;
      prints = refl;
      prints-blames = refl;
    }

-- all of them, in the list's order
pub loads-hold : LoadsHold
loads-hold = (
  a-holds,
  (
    b-holds,
    (
      b9-holds,
      (
        b7-holds,
        (
          phase8-holds,
          (
            phase7-holds,
            (
              unequal-holds,
              (waits0-holds, (empty_holds, (twins-holds, (one-box-holds, (factory-holds, (urgent-holds, tt)))))),
            ),
          ),
        ),
      ),
    ),
  ),
)
