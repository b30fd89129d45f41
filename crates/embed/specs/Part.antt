-- The two words by which show names a part of the map table.
use Rattle.std.specs.Prelude.{cond, List, [], ◌∷◌, ℕ, eqb, length}
use Rattle.tables.specs.Row.{bounds_of}
use Rattle.records.specs.declared.monitor.Monitor.{Monitor}
use Rattle.host_guests.specs.Calls.{show_of}

-- where the part of the map table that show hands back begins, and how many words it has; 0 and 0 where it is empty
abbrev pub part_words : ℕ → Monitor → List ℕ → List ℕ
part_words v r m =
    let n = length (show_of v r m).part in
    cond (eqb n 0) 0 (bounds_of (length m) v).start ∷ n ∷ []
