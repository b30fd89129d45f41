-- After some records of a piece, what is left of it comes to the rest of the outcome; their text has at most 21 bytes for each byte taken.
use Rattle.std.proofs.Common.{Some, None, Ok, Err, ◌≡◌, ℕ, ◌+◌, ◌*◌, ◌≤◌, Bool, true, false, List, [], ◌∷◌, ◌++◌, length, drop, refl, ap, ◌∙◌, append_assoc, append-nil, arith, length-append, length-drop, drop-drop}
use lib.Seq.{drop-length}
use Rattle.words.proofs.Booleans.{never}
use Rattle.answers.specs.Answer.{numbers_of}
use Rattle.calls.specs.Step.{step}
use Rattle.trace_records.specs.Record.{Decoded, decode_of}
use Rattle.trace_records.proofs.DecodeLaws.{record_size}
use Rattle.trace_lines.proofs.LineLaws.{line_length}
use Rattle.trace_lines.specs.declared.lines.Line.TheVariants.{Answer}
use Rattle.trace.specs.Replay.{Replay, Advance, unless_stopped, advance_of, outcome, text_before, outcome_of}
use Rattle.trace.proofs.ReplayLaws.{took, outcome_advances, no_bytes}

-- one record, as the code made it: what is kept then, the bytes taken, and the text put behind that before
pub record Advances (a : Advance) (left : Replay) (before after : List ℕ) (taken : ℕ) : Type 0 where
  pub keeps : left ≡ a.left
  pub takes : taken ≡ a.taken
  pub puts : after ≡ before ++ a.text

-- with n bytes taken and this text put, what is left comes to what all would have come to
abbrev pub Continues : Replay → List ℕ → Replay → ℕ → List ℕ → Type 0
Continues start bytes left n text = outcome_of start bytes ≡ text_before text (outcome_of left (drop n bytes))

first_record : (r : Replay) (s : List ℕ) → outcome_of r s ≡ text_before (advance_of r s).text (outcome_of (advance_of r s).left (drop (advance_of r s).taken s))
first_record r s = rw (append-nil s, append-nil (drop (advance_of r s).taken s)) at (outcome_advances r s [])

continues_more : (start r : Replay) (s text : List ℕ) (n : ℕ) → Continues start s r n text
    → Continues start s (advance_of r (drop n s)).left (n + (advance_of r (drop n s)).taken) (text ++ (advance_of r (drop n s)).text)
continues_more start r s text n h =
    h
    ∙ ap (λ (o : _). text_before text o) (first_record r (drop n s))
    ∙ rw (drop-drop (advance_of r (drop n s)).taken n s, append_assoc)

-- one record more, as the code made it
pub advance_continues : (start r left : Replay) (s before now : List ℕ) (n t : ℕ) → Continues start s r n before
    → Advances (advance_of r (drop n s)) left before now t
    → Continues start s left (n + t) now
advance_continues start r left s before now n t h a = rw (a.keeps, a.takes, a.puts) (continues_more start r s before n h)

-- a record has five bytes at least, and its line 105 at the most
text_by : (b : Bool) (r : Replay) (s : List ℕ) (d : Decoded) → decode_of s ≡ d → length (unless_stopped b r s d).text ≤ 21 * (unless_stopped b r s d).taken
unfolding decode_of
text_by true r s d e = omega arith
text_by false r s (Ok (Some g)) e = omega (arith, (record_size s g.call g.size e).0, line_length (Answer (numbers_of (step g.call r.state).answer)))
text_by false r [] (Err b) e = never cc
text_by false r (x ∷ s) (Err b) e = omega arith
text_by false r s (Ok None) e = omega arith

text_length : (r : Replay) (s : List ℕ) → length (advance_of r s).text ≤ 21 * (advance_of r s).taken
unfolding advance_of
text_length r s = text_by r.stopped r s (decode_of s) refl

-- how far it gets
pub advance_within : (r left : Replay) (s before now : List ℕ) (n t : ℕ) → n ≤ length s → length before ≤ 21 * n
    → Advances (advance_of r (drop n s)) left before now t
    → (n + t ≤ length s) × (length now ≤ 21 * (n + t))
advance_within r left s before now n t h k a =
    let room = (took r (drop n s)).0 in
    let long : length now ≡ length before + length (advance_of r (drop n s)).text = rw a.puts (length-append before (advance_of r (drop n s)).text) in
    (omega (arith, length-drop n s, a.takes), omega (arith, text_length r (drop n s), a.takes))

-- where there is nothing more to answer, this is the outcome
pub continues_end : (start left : Replay) (s text : List ℕ) (n : ℕ) → Continues start s left n text → outcome_of left (drop n s) ≡ outcome [] left (drop n s)
    → outcome_of start s ≡ outcome text left (drop n s)
continues_end start left s text n h e = h ∙ rw (e, append-nil)

-- after the last byte, and after a bad record, nothing is left
pub continues_all : (start left : Replay) (s text : List ℕ) → Continues start s left (length s) text → outcome_of start s ≡ outcome text left (drop (length s) s)
continues_all start left s text h = continues_end start left s text (length s) h (rw (drop-length s) (no_bytes left))
