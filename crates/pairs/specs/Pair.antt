-- Document 01, "Tables": "A word that names a partner (a map word its frame, a frame word its owner's granule) must be named back by it,
-- with the same shared or private; else both are damaged, to a call that looks from that word to its partner. What any third word
-- names doesn't count."
use Rattle.std.specs.Prelude.{Bool, true, false, cond, ◌&&◌, List, ℕ, ltb, length, get_or}
use Rattle.words.specs.MapWord.{map_word_of, names_frame}
use Rattle.words.specs.FrameWord.{frame_word_of, names_granule}
use Rattle.words.specs.declared.map_word.MapWord.{MapWord}
use Rattle.words.specs.declared.map_word.MapWord.TheVariants as map-word
use Rattle.words.specs.declared.frame_word.FrameWord.{FrameWord}
use Rattle.words.specs.declared.frame_word.FrameWord.TheVariants as frame-word
use Rattle.tables.specs.Length.{width_of}
use Rattle.tables.specs.Row.{word_at}
use Rattle.pairs.specs.declared.pairs.GranuleState.{GranuleState}
use Rattle.pairs.specs.declared.pairs.GranuleState.TheVariants as granule-state
use Rattle.pairs.specs.declared.pairs.FrameState.{FrameState}
use Rattle.pairs.specs.declared.pairs.FrameState.TheVariants as frame-state

-- frame f, which the map word of granule g of slot v names, is below F, and its word names that granule back
abbrev pub frame_names_back : List ℕ → ℕ → Bool → ℕ → ℕ → Bool
frame_names_back frames v s g f = ltb f (length frames) && names_granule v s g (frame_word_of (get_or frames f 0))

-- granule g of slot v, by what its map word says
unfoldable pub granule_state : List ℕ → ℕ → ℕ → MapWord → GranuleState
granule_state frames v g map-word.Vacant = granule-state.Vacant
granule_state frames v g (map-word.Frame s f) = cond (frame_names_back frames v s g f) (granule-state.Frame s f) granule-state.Damaged
granule_state frames v g map-word.Guarded = granule-state.Guarded
granule_state frames v g map-word.Damaged = granule-state.Damaged

-- the pair test of a granule with its frame; "a granule not below W" is damaged, and so is that of no slot
unfoldable pub pair_at : List ℕ → List ℕ → ℕ → ℕ → GranuleState
pair_at frames map v g =
    cond (ltb v 8 && ltb g (width_of (length map))) (granule_state frames v g (map_word_of (word_at map v g))) granule-state.Damaged

-- granule g of slot v, which the word of frame f names, is below W, and its word names that frame back
abbrev pub granule_names_back : List ℕ → ℕ → Bool → ℕ → ℕ → Bool
granule_names_back map v s g f = ltb g (width_of (length map)) && names_frame s f (map_word_of (word_at map v g))

-- frame f, by what its frame word says
unfoldable pub frame_state : List ℕ → ℕ → FrameWord → FrameState
frame_state map f frame-word.Host = frame-state.Host
frame_state map f frame-word.Waiting = frame-state.Waiting
frame_state map f (frame-word.Owned v s g) = cond (granule_names_back map v s g f) (frame-state.Owned v s g) frame-state.Damaged
frame_state map f frame-word.Damaged = frame-state.Damaged

-- the pair test of a frame with its owner's granule; "a frame not below F" is damaged
unfoldable pub pair_of : List ℕ → List ℕ → ℕ → FrameState
pair_of frames map f = cond (ltb f (length frames)) (frame_state map f (frame_word_of (get_or frames f 0))) frame-state.Damaged

abbrev pub granule_undamaged : GranuleState → Bool
granule_undamaged granule-state.Vacant = true
granule_undamaged (granule-state.Frame s f) = true
granule_undamaged granule-state.Guarded = true
granule_undamaged granule-state.Damaged = false

abbrev pub granule_vacant : GranuleState → Bool
granule_vacant granule-state.Vacant = true
granule_vacant (granule-state.Frame s f) = false
granule_vacant granule-state.Guarded = false
granule_vacant granule-state.Damaged = false

abbrev pub frame_undamaged : FrameState → Bool
frame_undamaged frame-state.Host = true
frame_undamaged frame-state.Waiting = true
frame_undamaged (frame-state.Owned v s g) = true
frame_undamaged frame-state.Damaged = false

abbrev pub frame_hosts : FrameState → Bool
frame_hosts frame-state.Host = true
frame_hosts frame-state.Waiting = false
frame_hosts (frame-state.Owned v s g) = false
frame_hosts frame-state.Damaged = false

abbrev pub frame_waiting : FrameState → Bool
frame_waiting frame-state.Host = false
frame_waiting frame-state.Waiting = true
frame_waiting (frame-state.Owned v s g) = false
frame_waiting frame-state.Damaged = false
