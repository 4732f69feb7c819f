-- `words::bytes_at` takes the bytes that are there one a turn where not all of them are.
use Rattle.std.proofs.Common.{◌<◌, ◌≢◌, ◌∙◌, ap, arith}
use Rattle.std.proofs.Common.{length, length-set, get_or-set_other, get_or-set_same, below_more}
use Rattle.words.specs.LittleEndian.{byte_at}
use Rattle.words.proofs.bytes_at.Goals as goal

pub loop-k-preserved : goal.loop-k-preserved
loop-k-preserved g c =
    let lt : c.loop-k.k < length c.loop-k.byte-items = omega arith in (
      simp length-set c.loop-k.invariant.0,
      below_more _ _
          (λ i h. let ne : i ≢ c.loop-k.k = omega arith in rw get_or-set_other (c.loop-k.invariant.1 i h))
          (rw get_or-set_same (c.byte_at.ensures ∙ ap (byte_at c.bytes_from-rest.result.now) (omega arith))),
    )
