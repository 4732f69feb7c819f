-- The contract of each call on schedules is its relation in ScheduleCalls, at the call's own parameters,
-- and asks nothing. This is a statement, a part of Joined.
use Rattle.schedule.specs.contracts as schedule
use Rattle.schedule_file.specs.contracts as schedule_file
use Rattle.demands.specs.ScheduleCalls.{EveryScheduleCall}
use Rattle.demands.specs.JoinedContract.{Says, Relation, wrote}

pub record ScheduleContracts (relation : EveryScheduleCall Relation) : Type 2 where
  -- schedule
  pub at-most-places : Says schedule.at_most_places.ended (λ M 𝓤. schedule.at_most_places.spec)
      (λ κs a r s. (relation.at-most-places a.0).meets r)
  pub check-schedule : Says schedule.check_schedule.ended (λ M 𝓤. schedule.check_schedule.spec)
      (λ κs a r s. (relation.check-schedule a.0 a.1.0.now).meets r)
  pub check-array : Says schedule.check_array.ended (λ M 𝓤. schedule.check_array.spec)
      (λ κs a r s. (relation.check-array a.0 a.1.0 a.1.1.0).meets r)
  -- schedule_file
  pub check-room : Says schedule_file.check_room.ended (λ M 𝓤. schedule_file.check_room.spec)
      (λ κs a r s. (relation.check-room a.0 a.1.0).meets r)
  pub head-record : Says schedule_file.head_record.ended (λ M 𝓤. schedule_file.head_record.spec)
      (λ κs a r s. (relation.head-record a.0).meets r)
  pub slot-record : Says schedule_file.slot_record.ended (λ M 𝓤. schedule_file.slot_record.spec)
      (λ κs a r s. (relation.slot-record a.0 a.1.0 a.1.1.0).meets r)
  pub write-schedule : Says schedule_file.write_schedule.ended (λ M 𝓤. schedule_file.write_schedule.spec)
      (λ κs a r s. (relation.write-schedule a.0.now a.1.0.now).meets (wrote r s.1.0.now))
  pub write-array : Says schedule_file.write_array.ended (λ M 𝓤. schedule_file.write_array.spec)
      (λ κs a r s. (relation.write-array a.0 a.1.0 a.1.1.0.now).meets (wrote r s.1.1.0.now))
