-- Document 01, "Guest calls": "R0 is a signed 64-bit number on return, with −1 and −3 sign-extended"; of verdict 9, "v0 is the signed number".
use Rattle.std.specs.Prelude.{ℕ, suc, ◌-◌, ◌^◌, ℤ, pos, negsuc}

-- a signed number as 64 bits, in two's complement: `negsuc n` is −(n + 1)
abbrev pub register_of : ℤ → ℕ
register_of (pos n) = n
register_of (negsuc n) = 2 ^ 64 - suc n
