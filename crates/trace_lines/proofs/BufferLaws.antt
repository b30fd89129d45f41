-- The bytes of a buffer behind the first ones, moved to the front; and bytes put behind bytes put.
use Rattle.std.proofs.Common.{◌≡◌, ℕ, ◌+◌, ◌-◌, min, List, ◌++◌, length, take, drop, sym, ap, ◌∙◌, append_assoc, arith, length-append, length-drop, drop-drop}
use lib.Seq.{paste, length-take-le}
use Rattle.std.proofs.lemmas.List.{drop-take, drop_min, take_min}
use Rattle.std.proofs.lemmas.List.Edits.{take-paste}
use Rattle.trace_lines.specs.Filled.{Filled, with_put}

-- the first f bytes count, or all where there are fewer: those of them behind n, moved to the front
pub moved : (b : List ℕ) (f n e t : ℕ) → e ≡ min f (length b) → t ≡ min n e → take (e - t) (paste b 0 (drop t b) (e - t)) ≡ drop n (take f b)
moved b f n e t h m =
    let k : ℕ = e - t in
    let front : k ≡ 0 + k = omega arith in
    let whole : t + k ≡ e = omega (arith, m) in
    let all : take e b ≡ take f b = rw h (take_min f b) in
    ap (λ m. take m (paste b 0 (drop t b) k)) front
    ∙ take-paste b 0 (drop t b) k (omega arith) (omega (arith, length-drop t b))
    ∙ sym (drop-take t k b)
    ∙ rw (whole, m) (rw (length-take-le e b (omega arith)) at (drop_min n (take e b)))
    ∙ ap (drop n) all

pub put_put : (b : Filled) (s t : List ℕ) → with_put (with_put b s) t ≡ with_put b (s ++ t)
put_put b s t = rw (append_assoc b.text s t, drop-drop (length t) (length s) b.behind, length-append s t)
