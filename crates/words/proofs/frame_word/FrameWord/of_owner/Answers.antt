-- Three fields side by side are a sum.
use Prim.Native.Nat.{◌+◌, ◌*◌, ◌≤◌, ◌^◌}
use native.Mathlib.Omega.{arith}
use Rattle.words.specs.FrameWord.{frame_bits, sharing_byte}
use Rattle.words.proofs.Packing.{packed}
use Rattle.words.proofs.FrameWordLaws.{sharing_bit, sharing_cast}
use Rattle.words.proofs.frame_word.FrameWord.of_owner.Goals as goal

pub returns : goal.returns
unfolding frame_bits
returns c =
    let s = c.args.shared in
    let few : sharing_byte s ≤ 1 = sharing_bit s in
    rw (sharing_cast s, packed 16 (sharing_byte s) c.args.granule (omega arith) (omega arith))
    (packed 24 (c.args.slot + 1) (sharing_byte s * 2 ^ 16 + c.args.granule) (omega arith) (omega arith))
