-- Document 01, "Tables": "A granule is 4,096 bytes, and addresses and granule numbers must not be mixed."
use Rattle.std.specs.Prelude.{Bool, cond, ℕ, ◌*◌, ◌/◌, ◌%◌, ◌^◌, eqb, ltb, Option, Some, None}

abbrev pub granule_size : ℕ
granule_size = 4096

-- the granule that holds an address, aligned or not
abbrev pub granule_of : ℕ → ℕ
granule_of a = a / granule_size

-- "A base must be a multiple of 4,096."
abbrev pub is_base : ℕ → Bool
is_base a = eqb (a % granule_size) 0

-- the first address of a granule
abbrev pub address_of : ℕ → ℕ
address_of g = g * granule_size

-- the same as an answer: 64 bits hold it, or it is beyond them
abbrev pub address_at : ℕ → Option ℕ
address_at g = cond (ltb (address_of g) (2 ^ 64)) (Some (address_of g)) None
