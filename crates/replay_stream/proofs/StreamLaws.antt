-- Bytes read behind those held, the text of a stream turn by turn, and the text as a whole.
use Rattle.std.proofs.Common.{◌≡◌, ℕ, ◌+◌, ◌≤◌, List, [], ◌∷◌, ◌++◌, length, take, ap, sym, ◌∙◌, refl, append_assoc, append-nil, arith, subst, Option, Some, None, Result, Ok, Err, OnOk}
use mathlib.Core.List.{flatten}
use lib.Seq.{take-append-add, take-append-le, length-take-le}
use borrow.Rule.Slice.PartMut.{put_mid, post_of}
use Rattle.std.specs.Io.KnownBytes.{Consumes, Appends, IsAtEnd}
use Rattle.std.proofs.KnownBytes.{Consumes-nil, Consumes-trans, Consumes-whole, Appends-nil, Appends-trans}
use Rattle.trace_lines.specs.Line.{line_text}
use Rattle.trace_lines.specs.declared.lines.Line.TheVariants.{First}
use Rattle.trace.specs.Replay.{Replay, fresh_replay, replay_text, pieces_text, closing}
use Rattle.trace.specs.Ensured.{Turns}
use Rattle.trace.proofs.Whole.{any_pieces, turn_first}
use Rattle.replay_stream.specs.Stream.{WritesPieces, WritesReplay}

-- bytes put behind the first a of a buffer: the first of them stand behind those a
pub put_behind : (a k n : ℕ) (xs ys : List ℕ) → a ≤ length xs → n ≤ length ys → take (a + n) (put_mid a k xs ys) ≡ take a xs ++ take n ys
put_behind a k n xs ys h l =
    ap (λ m. take (m + n) (put_mid a k xs ys)) (sym (length-take-le a xs h))
    ∙ take-append-add (take a xs) (ys ++ post_of a k xs) n
    ∙ ap (λ l. take a xs ++ l) (take-append-le n ys (post_of a k xs) l)

-- what holds of a success, from what else holds of it
pub on_ok : {A E P Q : Type 0} (r : Result A E) → (P → Q) → OnOk r P → OnOk r Q
on_ok (Ok x) f h = f h
on_ok (Err e) f h = tt

-- A stream on its way: from a the reader went to b, and from v the writer to w. Whatever pieces follow, the bytes that were read and those pieces can be cut so
-- that the text of all is the text that was written, and behind it that of the bytes held and the pieces that follow.
pub record OnTheWay (start : Replay) (a b v w : Option (List ℕ)) (now : Replay) (held : List ℕ) : Type 0 where
  pub done : List ℕ
  pub written : List ℕ
  pub read : Consumes a b done
  pub wrote : Appends v w written
  pub follows : (qs : List (List ℕ)) → (ps : List (List ℕ)) × (flatten ps ≡ done ++ flatten qs)
      × (pieces_text start [] ps ≡ written ++ pieces_text now held qs)

pub begun : (start : Replay) (a v : Option (List ℕ)) → OnTheWay start a a v v start []
begun start a v = record {
  done = [];
  written = [];
  read = Consumes-nil a;
  wrote = Appends-nil v;
  follows = λ qs. (qs, refl, refl);
}

-- a piece is read, and the text of its turn written
pub turned : {start now left : Replay} {a b v w : Option (List ℕ)} {held rest text : List ℕ} (p : List ℕ) (c x : Option (List ℕ))
    → OnTheWay start a b v w now held → Consumes b c p → Turns now (held ++ p) left rest text → Appends w x text
    → OnTheWay start a c v x left rest
unfolding flatten
turned {now} {left} {a} {b} {v} {w} {held} {rest} {text} p c x way more turns wrote = record {
  done = way.done ++ p;
  written = way.written ++ text;
  read = Consumes-trans a b c way.done p way.read more;
  wrote = Appends-trans v w x way.written text way.wrote wrote;
  follows = λ qs.
      let (ps, cut, same) = way.follows (p ∷ qs) in
      (ps, cut ∙ sym (append_assoc way.done p (flatten qs)), same ∙ rw (turn_first now left held p rest text qs turns, append_assoc));
}

-- the log ends, and the last lines are written
pub closed : {start now : Replay} {a b v w : Option (List ℕ)} {held input : List ℕ} (p : List ℕ) (c x : Option (List ℕ))
    → OnTheWay start a b v w now held → length p ≡ 0 → Consumes b c p → input ≡ held ++ p → IsAtEnd c → Appends w x (closing now.answered (length input))
    → WritesPieces start a v x
unfolding flatten
closed (y ∷ p) c x way none more behind end last = absurd (omega arith)
closed {start} {now} {a} {b} {v} {w} {held} [] c x way none more behind end last =
    let (ps, cut, text) = way.follows [] in
    let wrote = rw (behind, append-nil) at last in
    Consumes-whole a c (way.done ++ []) (λ xs. (ps : List (List ℕ)) × (flatten ps ≡ xs) × Appends v x (pieces_text start [] ps))
    (Consumes-trans a b c way.done [] way.read more) end
    (ps, cut, subst (Appends v x) (sym text) (Appends-trans v w x way.written (closing now.answered (length held)) way.wrote wrote))

-- behind the first line, the text of the pieces is that of the whole log
pub whole : (a v w x : Option (List ℕ)) → Appends v w (line_text First) → WritesPieces fresh_replay a w x → WritesReplay a v x
whole None v w x first h = tt
whole (Some log) v w x first (ps, cut, wrote) = subst (Appends v x) (any_pieces ps ∙ ap replay_text cut) (Appends-trans v w x _ _ first wrote)
