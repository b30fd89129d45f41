-- Worked logs: what calls from fresh tables of 256 frames and 64 granules a slot come to, for one frame.
use Rattle.std.specs.Prelude.{false, true, List, [], ◌∷◌, ◌++◌, ℕ, ◌*◌}
use Rattle.runs.specs.Worked.{Case}
use Rattle.answers.specs.Answer.{numbers_of, verdict_with}
use Rattle.answers.specs.declared.answer.Numbers.{Numbers}
use Rattle.functions.specs.Rules.{registers}
use Rattle.calls.specs.Step.{step, state_after, fresh_state}
use Rattle.calls.specs.declared.call.Call.{Call}
use Rattle.calls.specs.declared.call.Call.TheVariants.{Create, Donate, Run, Remove, Cleared, Access, Hypercall}
use Rattle.history.specs.Log.{FrameChange, never_donated, donated, shared, unshared, relinquished, owner_removed, cleared, last_change}
use Rattle.history.specs.History.{log_of}

-- calls, a frame, the last change that their log says of it, and what access then answers
abbrev case : List Call → ℕ → FrameChange → ℕ → Case (FrameChange × Numbers)
case cs f c n =
    let s = fresh_state 256 64 in
    record { found = (last_change (log_of cs s) f, numbers_of (step (Access f) (state_after cs s)).answer); expected = (c, verdict_with 0 n) }

-- a call of slot v at granule g with a count
abbrev asks : ℕ → ℕ → ℕ → ℕ → Call
asks v number g n = Hypercall v (registers number (g * 4096) n 0)

-- a guest in slot 0 with frames 3 and 4 at granules 5 and 7, one in slot 1 with frame 9 at granule 5
abbrev began : List Call
began = Create false ∷ Donate 0 3 5 ∷ Donate 0 4 7 ∷ Create false ∷ Donate 1 9 5 ∷ Run 0 ∷ Run 1 ∷ []

-- the same, where the guest in slot 0 is legacy
abbrev began_legacy : List Call
began_legacy = Create true ∷ Donate 0 3 5 ∷ Donate 0 4 7 ∷ Create false ∷ Donate 1 9 5 ∷ Run 0 ∷ Run 1 ∷ []

abbrev pub logs : List (Case (FrameChange × Numbers))
logs =
    case [] 3 never_donated 1
    ∷ case began 200 never_donated 1
    ∷ case began 3 (donated 0 5) 0
    -- a donation that is refused: the frame is a guest's, or the granule is not vacant
    ∷ case (began ++ (Donate 1 3 6 ∷ [])) 3 (donated 0 5) 0
    ∷ case (began ++ (Donate 0 11 5 ∷ [])) 11 never_donated 1
    ∷ case (began ++ (asks 0 0xC6000003 5 1 ∷ [])) 3 (shared 0 5) 1
    -- "Count 0 means 1 for share and unshare", and R1 is 1
    ∷ case (began ++ (asks 0 0xC6000003 5 0 ∷ [])) 3 (shared 0 5) 1
    -- the upper half of R0 isn't looked at
    ∷ case (began ++ (asks 0 0x1C6000003 5 1 ∷ [])) 3 (shared 0 5) 1
    -- three granules asked for, of which the second has no frame: R1 is 1
    ∷ case (began ++ (asks 0 0xC6000003 5 3 ∷ [])) 4 (donated 0 7) 0
    -- two that were shared, of which this is the second
    ∷ case (began ++ (Donate 0 8 6 ∷ asks 0 0xC6000003 5 2 ∷ [])) 8 (shared 0 6) 1
    -- the granule after the one that was shared
    ∷ case (began ++ (Donate 0 8 6 ∷ asks 0 0xC6000003 5 1 ∷ [])) 8 (donated 0 6) 0
    -- the same granule of another guest
    ∷ case (began ++ (asks 0 0xC6000003 5 1 ∷ [])) 9 (donated 1 5) 0
    ∷ case (began ++ (asks 0 0xC6000003 5 1 ∷ asks 0 0xC6000004 5 1 ∷ [])) 3 (unshared 0 5) 0
    -- two that were unshared, of which this is the second
    ∷ case (began ++ (Donate 0 8 6 ∷ asks 0 0xC6000003 5 2 ∷ asks 0 0xC6000004 5 2 ∷ [])) 8 (unshared 0 6) 0
    -- a shared granule can't be relinquished, a private one can
    ∷ case (began ++ (asks 0 0xC6000003 5 1 ∷ asks 0 0xC6000009 5 0 ∷ [])) 3 (shared 0 5) 1
    ∷ case (began ++ (asks 0 0xC6000009 5 0 ∷ [])) 3 relinquished 0
    -- a removed guest's frames wait, shared ones too; others' do not change
    ∷ case (began ++ (asks 0 0xC6000003 5 1 ∷ Remove 0 ∷ [])) 3 owner_removed 0
    ∷ case (began ++ (asks 1 0xC6000003 5 1 ∷ Remove 0 ∷ [])) 9 (shared 1 5) 1
    -- a clearing counts where the frame waits
    ∷ case (began ++ (Cleared 3 ∷ [])) 3 (donated 0 5) 0
    ∷ case (began ++ (Remove 0 ∷ Cleared 3 ∷ [])) 3 cleared 1
    ∷ case (began ++ (Remove 0 ∷ Cleared 3 ∷ Donate 1 3 8 ∷ [])) 3 (donated 1 8) 0
    -- a legacy guest's share, which tells 0, is open to the host, and its unshare shuts it again
    ∷ case (began_legacy ++ (asks 0 0xC6000003 5 0 ∷ [])) 3 (shared 0 5) 1
    ∷ case (began_legacy ++ (asks 0 0xC6000003 5 0 ∷ asks 0 0xC6000004 5 0 ∷ [])) 3 (unshared 0 5) 0
    ∷ case (began_legacy ++ (asks 0 0xC6000009 5 0 ∷ [])) 3 relinquished 0
    ∷ case (began_legacy ++ (asks 0 0xC6000003 5 0 ∷ asks 0 0xC6000009 5 0 ∷ [])) 3 (shared 0 5) 1
    -- the granule after it is not
    ∷ case (began_legacy ++ (Donate 0 8 6 ∷ asks 0 0xC6000003 5 0 ∷ [])) 8 (donated 0 6) 0
    -- with a count they are refused
    ∷ case (began_legacy ++ (asks 0 0xC6000003 5 1 ∷ [])) 3 (donated 0 5) 0
    ∷ case (began_legacy ++ (asks 0 0xC6000003 5 0 ∷ asks 0 0xC6000004 5 1 ∷ [])) 3 (shared 0 5) 1
    -- so is a share before it has run, though it has enrolled
    ∷ case (Create true ∷ Donate 0 3 5 ∷ asks 0 0xC6000003 5 0 ∷ []) 3 (donated 0 5) 0
    -- a granule that it guards has no frame
    ∷ case (began_legacy ++ (asks 0 0xC6000007 5 0 ∷ asks 0 0xC6000007 6 0 ∷ [])) 3 (donated 0 5) 0
    -- when it is removed its frames wait, and the next guest there can be of the other kind
    ∷ case (began_legacy ++ (asks 0 0xC6000003 5 0 ∷ Remove 0 ∷ [])) 3 owner_removed 0
    ∷ case (began_legacy ++ (Remove 0 ∷ Cleared 3 ∷ [])) 3 cleared 1
    ∷ case (began_legacy ++ (Remove 0 ∷ Cleared 3 ∷ Create false ∷ Donate 0 3 5 ∷ Run 0 ∷ asks 0 0xC6000003 5 1 ∷ [])) 3 (shared 0 5) 1
    -- beside it a guest with ranges
    ∷ case (began_legacy ++ (asks 0 0xC6000003 5 0 ∷ [])) 9 (donated 1 5) 0
    ∷ case (began_legacy ++ (asks 1 0xC6000003 5 1 ∷ [])) 9 (shared 1 5) 1
    ∷ case (began_legacy ++ (asks 1 0xC6000003 5 1 ∷ [])) 3 (donated 0 5) 0
    ∷ []
