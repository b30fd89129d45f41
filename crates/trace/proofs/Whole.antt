-- Whole logs: the text of one that comes in pieces, and worked logs.
use Rattle.std.proofs.Common.{◌≡◌, ℕ, List, [], ◌∷◌, ◌++◌, refl}
use mathlib.Core.List.{flatten}
use Rattle.runs.specs.Worked.{AsExpected}
use Rattle.words.specs.MapWord.{map_bits, map_word_of}
use Rattle.words.specs.FrameWord.{frame_bits, frame_word_of}
use Rattle.tables.specs.Length.{frames_hold, map_holds}
use Rattle.tables.specs.Row.{bounds_of}
use Rattle.pairs.specs.Pair.{granule_state, pair_at, frame_state, pair_of}
use Rattle.records.specs.Monitor.{guest_of, with_guest, free_from}
use Rattle.answers.specs.Answer.{numbers_of}
use Rattle.granules.specs.Kind.{change_of}
use Rattle.granules.specs.Step.{step_from}
use Rattle.functions.specs.Function.{function_of}
use Rattle.call_table.specs.Table.{ranged_row_of, legacy_row_of}
use Rattle.guest_hypercalls.specs.Calls.{act_of, hypercall_of}
use Rattle.rows.specs.WholeRow.{row_vacant}
use Rattle.host_registers.specs.Registers.{register_numbered}
use Rattle.host_donation.specs.Calls.{donate_of}
use Rattle.host_guests.specs.Calls.{create_of, run_of}
use Rattle.calls.specs.Step.{step}
use Rattle.trace_kinds.specs.RecordKind.{kind_of}
use Rattle.trace_records.specs.Record.{decode_of}
use Rattle.trace_lines.specs.Line.{numeral, decimal, line_text}
use Rattle.trace_lines.specs.declared.lines.Line.TheVariants.{First}
use Rattle.trace.specs.Replay.{Replay, advance_of, outcome_of, fresh_replay, replay_text, pieces_text}
use Rattle.trace.specs.Ensured.{Turns}
use Rattle.trace.specs.Cases.{cases}
use Rattle.trace.proofs.ReplayLaws.{no_bytes}
use Rattle.trace.proofs.PieceLaws.{pieces_joined}

-- However a log is cut into pieces, the first line and what they come to in turn are the text of the whole log.
pub any_pieces : (ps : List (List ℕ)) → line_text First ++ pieces_text fresh_replay [] ps ≡ replay_text (flatten ps)
unfolding replay_text
any_pieces ps = rw (pieces_joined ps fresh_replay [] (no_bytes fresh_replay))

-- A turn on the bytes held and a piece behind them is one step: its text, and then the text of the pieces that follow.
pub turn_first : (start left : Replay) (held p rest text : List ℕ) (ps : List (List ℕ)) → Turns start (held ++ p) left rest text
    → pieces_text start held (p ∷ ps) ≡ text ++ pieces_text left rest ps
turn_first start left held p rest text ps h = rw h.comes_to

-- document 01's example, whole and in pieces, the empty input, logs that are bad and cut short, one at the bounds, and one of a legacy guest
pub log_cases : AsExpected cases
unfolding replay_text outcome_of advance_of decode_of kind_of numeral decimal step create_of free_from donate_of run_of register_numbered hypercall_of act_of function_of ranged_row_of legacy_row_of step_from change_of row_vacant bounds_of frame_state pair_of granule_state pair_at map_word_of frame_word_of map_bits frame_bits numbers_of guest_of with_guest frames_hold map_holds
log_cases = refl
