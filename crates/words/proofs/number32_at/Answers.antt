-- `words::number32_at` takes four bytes, and std counts them by their weights.
use mathlib.Core.Path.{◌≡◌, ◌∙◌}
use native.Mathlib.Omega.{arith}
use Rattle.words.specs.LittleEndian.{number_at}
use Rattle.words.proofs.LittleEndianLaws.{number_at-four, number_at-taken}
use Rattle.words.proofs.number32_at.Goals as goal

pub returns : goal.returns
returns c =
    let taken = c.bytes_at.result in
    let weights : c.from_le_bytes.result ≡ number_at 4 taken 0 =
    omega (arith, c.from_le_bytes.ensures, number_at-four taken 0) in
    weights ∙ number_at-taken 4 c.args.bytes.now taken c.args.at c.bytes_at.ensures
