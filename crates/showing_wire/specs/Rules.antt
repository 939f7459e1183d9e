-- The answers about showing rules as words: which ones each writes. The others keep their values.
use Rattle.std.specs.Prelude.{ℕ, Bool, cond, [], ◌∷◌, Result}
use Rattle.parsing.specs.Parse.{Res, ok, no}
use Rattle.showing.specs.Showing.{checked_res}
use Rattle.showing.specs.declared.RulesRefusal.{RulesRefusal}
use Rattle.wire.specs.Wire.{Wire, put, numbered}

-- a result writes no word; a refusal is its number, with its values from the first word on
abbrev pub res_wire : (before : Wire) → Res Unit → Wire
res_wire w (ok _ _) = numbered 0 w
res_wire w (no number values) = numbered number (put 0 0 values w)

abbrev pub checked_wire : (before : Wire) → Result Unit RulesRefusal → Wire
checked_wire w a = res_wire w (checked_res a)

-- a tag id and a zoom
abbrev pub put_place : (id zoom : ℕ) → Wire → Wire
put_place id zoom w = put 0 0 (id ∷ zoom ∷ []) w

-- whether a way is shown
abbrev pub shown_wire : (before : Wire) → Bool → Wire
shown_wire w b = numbered 0 (put 0 6 (cond b 1 0 ∷ []) w)
