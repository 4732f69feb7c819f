-- The contract of each call on load files is its relation in FileCalls, at the call's own parameters,
-- and asks nothing. This is a statement, a part of Joined.
use Rattle.load_records.specs.contracts as load_records
use Rattle.load_file.specs.contracts as load_file
use Rattle.demands.specs.FileCalls.{EveryFileCall}
use Rattle.demands.specs.JoinedContract.{Says, Relation, wrote}

pub record FileContracts (relation : EveryFileCall Relation) : Type 2 where
  -- load_records
  pub row-size : Says load_records.row_size.ended (λ M 𝓤. load_records.row_size.spec)
      (λ κs a r s. (relation.row-size a.0).meets r)
  pub row-records : Says load_records.row_records.ended (λ M 𝓤. load_records.row_records.spec)
      (λ κs a r s. (relation.row-records a.0).meets r)
  pub version-1-size : Says load_records.version_1_size.ended (λ M 𝓤. load_records.version_1_size.spec)
      (λ κs a r s. (relation.version-1-size a.0).meets r)
  pub version-2-size : Says load_records.version_2_size.ended (λ M 𝓤. load_records.version_2_size.spec)
      (λ κs a r s. (relation.version-2-size a.0).meets r)
  pub write-version-1 : Says load_records.write_version_1.ended (λ M 𝓤. load_records.write_version_1.spec)
      (λ κs a r s. (relation.write-version-1 a.0 a.1.0.now).meets (wrote r s.1.0.now))
  pub write-version-2 : Says load_records.write_version_2.ended (λ M 𝓤. load_records.write_version_2.spec)
      (λ κs a r s. (relation.write-version-2 a.0 a.1.0.now).meets (wrote r s.1.0.now))
  -- load_file
  pub read-load : Says load_file.read_load.ended (λ M 𝓤. load_file.read_load.spec)
      (λ κs a r s. (relation.read-load a.0.now).meets r)
