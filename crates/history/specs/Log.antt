-- Condition 2, "an auditor reads the history and not our tables": what a log says of one frame. Of our own words, tables and records nothing
-- occurs here; a frame that is a guest's is at the granule that its donation named.
use Rattle.std.specs.Prelude.{Bool, cond, ◌&&◌, List, [], ◌∷◌, ℕ, ◌+◌, ◌%◌, ◌^◌, eqb, leb, ltb}
use Rattle.words.specs.Granule.{granule_of}
use Rattle.answers.specs.declared.answer.Numbers.{Numbers}
use Rattle.functions.specs.declared.rules.Registers.{Registers}
use Rattle.calls.specs.declared.call.Call.{Call}
use Rattle.calls.specs.Step.{FrameEvent, donation, removal, clearing, guest_call, other_event, frame_event}

-- a call, and its answer as the five numbers
pub record Entry : Type 0 where
  pub call : Call
  pub told : Numbers

-- the kinds of change to a frame; the two numbers are the slot and the granule where it is then
pub data FrameChange : Type 0 where
  never_donated : FrameChange
  donated : ℕ → ℕ → FrameChange
  shared : ℕ → ℕ → FrameChange
  unshared : ℕ → ℕ → FrameChange
  relinquished : FrameChange
  owner_removed : FrameChange
  cleared : FrameChange

-- "exactly when it was never donated, or when the last change to it was a share by its owner or a confirmed clearing"
abbrev pub open_after : FrameChange → ℕ
open_after never_donated = 1
open_after (donated v g) = 0
open_after (shared v g) = 1
open_after (unshared v g) = 0
open_after relinquished = 0
open_after owner_removed = 0
open_after cleared = 1

-- verdict 0: "host call done"
abbrev pub host_done : Numbers → Bool
host_done n = eqb n.verdict 0

-- verdict 10 with R0 = 0: "If at least one was done it answers 0"
abbrev pub guest_done : Numbers → Bool
guest_done n = eqb n.verdict 10 && eqb n.v0 0

-- granule h of slot u is one of n granules of slot v from g on
abbrev pub among : ℕ → ℕ → ℕ → ℕ → ℕ → Bool
among v g n u h = eqb u v && (leb g h && ltb h (g + n))

-- a frame at a granule that a call is about is changed so by it; any other is left
abbrev pub changed_where : (ℕ → ℕ → Bool) → (ℕ → ℕ → FrameChange) → FrameChange → FrameChange
changed_where about made never_donated = never_donated
changed_where about made (donated u h) = cond (about u h) (made u h) (donated u h)
changed_where about made (shared u h) = cond (about u h) (made u h) (shared u h)
changed_where about made (unshared u h) = cond (about u h) (made u h) (unshared u h)
changed_where about made relinquished = relinquished
changed_where about made owner_removed = owner_removed
changed_where about made cleared = cleared

-- the granules that a share or unshare is about that is done and tells n. Document 02, Wish 1: such calls of guests that know no ranges "do one
-- granule and return R1 = 0"; a done call of any other guest tells 1 or more.
abbrev pub told_granules : ℕ → ℕ
told_granules n = cond (eqb n 0) 1 n

-- what a hypercall of slot v that is done makes of a frame: "The function number is the low 32 bits of R0", R1 is the base, and share and
-- unshare tell in R1 how many granules they changed. Only these calls and relinquish change a frame.
unfoldable pub after_hypercall : ℕ → Registers → ℕ → FrameChange → FrameChange
after_hypercall v r n c =
    let number = r.r0 % 2 ^ 32 in
    let g = granule_of r.r1 in
    cond (eqb number 0xC6000003) (changed_where (among v g (told_granules n)) shared c)
    (cond (eqb number 0xC6000004) (changed_where (among v g (told_granules n)) unshared c)
    (cond (eqb number 0xC6000009) (changed_where (among v g 1) (λ u h. relinquished) c)
    c))

-- what one call with its answer makes of frame f, to which the last change was c
abbrev pub after_event : ℕ → FrameEvent → Numbers → FrameChange → FrameChange
after_event f (donation v d g) n c = cond (host_done n && eqb f d) (donated v g) c
after_event f (removal v) n c = cond (host_done n) (changed_where (λ u h. eqb u v) (λ u h. owner_removed) c) c
after_event f (clearing d) n c = cond (host_done n && eqb f d) cleared c
after_event f (guest_call v r) n c = cond (guest_done n) (after_hypercall v r n.v1 c) c
after_event f other_event n c = c

abbrev pub after_call : ℕ → Call → Numbers → FrameChange → FrameChange
after_call f c n x = after_event f (frame_event c) n x

-- the oldest entry stands first
abbrev pub last_from : ℕ → FrameChange → List Entry → FrameChange
last_from f c [] = c
last_from f c (e ∷ es) = last_from f (after_call f e.call e.told c) es

-- the last change to frame f that the log says
abbrev pub last_change : List Entry → ℕ → FrameChange
last_change log f = last_from f never_donated log
