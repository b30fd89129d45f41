-- Document 01, "Guest calls": a range of granules in one call.
use Rattle.std.specs.Prelude.{ℕ}

-- "each stops after 64 granules"
abbrev pub range_limit : ℕ
range_limit = 64
