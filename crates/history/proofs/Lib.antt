-- The words of a state, and pairs of them.
pub mod StateWords
pub mod NamingPairs
pub mod FramesAtGranules
-- The invariant, and the moves that keep it.
pub mod WordsSound
pub mod SoundLaws
pub mod SoundCases
pub mod WordMoves
pub mod RecordMoves
pub mod RecordLaws
-- What removals, steps and functions do.
pub mod FreedRow
pub mod Removal
pub mod StepWrites
pub mod Ranges
pub mod LoggedFunctions
-- Every reachable state is sound: what each call keeps.
pub mod Preserved
pub mod PassedTests
pub mod FrameCalls
pub mod StillCalls
pub mod SlotCalls
pub mod Undamaged
pub mod RangeCalls
pub mod GuestCalls
pub mod CallsKept
-- Every sound state is reached: the calls undone one after another.
pub mod SameState
pub mod CallsDone
pub mod Reached
pub mod UndoRemovals
pub mod UndoClearings
pub mod UndoCreations
pub mod UndoDonations
pub mod UndoRecords
pub mod UndoGuards
pub mod UndoShares
-- The theorems.
pub mod History
