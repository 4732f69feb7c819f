-- `bound_bytes` passes on what the file is refused for; the load of a file that was read passes its check.
use Rattle.std.proofs.Common.{ap, arith, ◌∙◌}
use Rattle.std.specs.Prelude.{Ok, Err}
use Rattle.words.specs.LittleEndian.{little_endian}
use Rattle.reading_bench.specs.Calls.{bound_bytes}
use Rattle.refusals.proofs.GivenParts.{given-part, given-refused}
use Rattle.refusals.proofs.PassedOn.{passed_on}
use Rattle.reading_bench.proofs.ForCLaws.{read-given, unread-given}
use Rattle.reading_bench.proofs.bound_bytes.Goals as goal

pub returns-in_err-read_load : goal.returns-in_err-read_load
returns-in_err-read_load c =
    passed_on _ _ c.from_residual.ensures.1 ∙ unread-given c.args.bytes.now _ bound_bytes c.in_err-read_load.ensures

pub returns-in_err-bound_of : goal.returns-in_err-bound_of
returns-in_err-bound_of c =
    passed_on _ _ c.from_residual-in_err-bound_of.ensures.1
    ∙ read-given c.args.bytes.now _ (λ at. omega (arith, c.type_inv.bytes at)) c.in_ok-read_load.ensures
    bound_bytes (Err _)
    (given-refused _ _ _ _ c.in_err-bound_of.ensures)

pub returns : goal.returns
unfolding little_endian
returns c =
    read-given c.args.bytes.now _ (λ at. omega (arith, c.type_inv.bytes at)) c.in_ok-read_load.ensures
    bound_bytes (Ok _)
    (ap Ok (rw c.bytes32.ensures) ∙ given-part (λ n. little_endian 4 n) _ _ _ c.in_ok-bound_of.ensures)
