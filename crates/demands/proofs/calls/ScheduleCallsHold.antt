-- The calls on schedules: each contract is its relation in ScheduleCalls, which a result meets, and one only.
use mathlib.Core.Path.{refl}
use Rattle.schedule.specs.Calls.{first_slots}
use Rattle.schedule.proofs.CallLaws.{AtMostPlaces-unique, CheckSchedule-unique, CheckArray-unique}
use Rattle.schedule_file.specs.ScheduleFile.{slots_fault, schedule_bytes}
use Rattle.schedule_file.proofs.CallLaws.{CheckRoom-unique, HeadRecord-unique, SlotRecord-unique}
use Rattle.schedule_file.proofs.CallLaws.{WriteSchedule-unique, WriteArray-unique}
use Rattle.demands.specs.ScheduleCalls.{EveryScheduleCall}
use Rattle.demands.specs.Sameness.{OneResult}
use Rattle.demands.specs.JoinedContract.{Relation}
use Rattle.demands.specs.Demand1.{Answer}
use Rattle.demands.proofs.contracts.ScheduleContracts.{ScheduleContracts}
use Rattle.demands.proofs.calls.CallAnswers.{listed, both, is, given}

abbrev pub schedule-relations : EveryScheduleCall Relation
schedule-relations =
    record {
      at-most-places = λ n. listed;
      check-schedule = λ load slots. listed;
      check-array = λ load slots n. listed;
      check-room = λ n room. listed;
      head-record = λ n. listed;
      slot-record = λ row step start. listed;
      write-schedule = λ slots out. listed;
      write-array = λ slots n out. listed;
    }

pub schedule-contracts : ScheduleContracts schedule-relations
schedule-contracts =
    record {
      at-most-places = refl;
      check-schedule = refl;
      check-array = refl;
      check-room = refl;
      head-record = refl;
      slot-record = refl;
      write-schedule = refl;
      write-array = refl;
    }

pub schedule-same : EveryScheduleCall OneResult
schedule-same =
    record {
      at-most-places = AtMostPlaces-unique;
      check-schedule = CheckSchedule-unique;
      check-array = CheckArray-unique;
      check-room = CheckRoom-unique;
      head-record = HeadRecord-unique;
      slot-record = SlotRecord-unique;
      write-schedule = λ slots out. both _ (WriteSchedule-unique slots out);
      write-array = λ slots n out. both _ (WriteArray-unique slots n out);
    }

pub schedule-answers : EveryScheduleCall Answer
schedule-answers =
    record {
      at-most-places = λ n. is _;
      check-schedule = λ load slots. is _;
      check-array = λ load slots n. is _;
      check-room = λ n room. is _;
      head-record = λ n. is _;
      slot-record = λ row step start. is _;
      write-schedule = λ slots out. given (slots_fault slots) (schedule_bytes slots) out;
      write-array = λ slots n out. given (slots_fault (first_slots slots n)) (schedule_bytes (first_slots slots n)) out;
    }
