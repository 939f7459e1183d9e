-- Document 01, tile.rs: `tilex2long` and the longitude half of `get_tiles`, with refusal 18 for a zoom above 63.
-- Each step of `Ieee` rounds once; `to_signed 31` is Rust's `as i32`: toward zero, 0 for a NaN, and the ends saturate.
use Rattle.std.specs.Prelude.{ℕ, ◌^◌, cond, [], ℤ, pos, nat_le, Float, Result, Ok, Err}
use Rattle.std.specs.Float.Ieee as Ieee
use Rattle.std.specs.Float.{binary64}
use Rattle.parsing.specs.Parse.{Res, ok, no}
use Rattle.error.specs.Refusals.{refused}
use Rattle.error.specs.declared.Refusal.{Refusal}
use Rattle.utils.specs.declared.Degrees.{Degrees}

-- a whole number as a float, the nearest
abbrev pub as_float : ℕ → Float
as_float n = Ieee.of_int binary64 (pos n)

-- the degrees at which column x of the 2 ^ zoom starts
unfoldable pub longitude_of : ℕ → ℕ → Float
longitude_of x zoom =
    let part = Ieee.div binary64 (as_float x) (as_float (2 ^ zoom)) in
    let east = Ieee.mul binary64 part (as_float 360) in
    Ieee.sub binary64 east (as_float 180)

-- the column of the 2 ^ zoom in which a longitude in degrees lies
unfoldable pub column_of : Float → ℕ → ℤ
column_of degrees zoom =
    let east = Ieee.add binary64 degrees (as_float 180) in
    let scaled = Ieee.mul binary64 (as_float (2 ^ zoom)) east in
    Ieee.to_signed 31 (Ieee.div binary64 scaled (as_float 360))

-- for every zoom, with refusal 18 above 63; no place of a map is read, and it is 0
unfoldable pub longitude : ℕ → ℕ → Res Float
longitude x zoom = cond (nat_le zoom 63) (ok (longitude_of x zoom) 0) (no 18 [])

unfoldable pub column : Float → ℕ → Res ℤ
column degrees zoom = cond (nat_le zoom 63) (ok (column_of degrees zoom) 0) (no 18 [])

-- the answers as results
abbrev pub longitude_res : Result Degrees Refusal → Res Float
longitude_res (Ok d) = ok d.0 0
longitude_res (Err r) = refused r

abbrev pub column_res : Result ℤ Refusal → Res ℤ
column_res (Ok z) = ok z 0
column_res (Err r) = refused r
