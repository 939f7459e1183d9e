-- An answer that was received, in a definition that goes on from it, for `search`.
use Prim.Native.Nat.{ℕ, ◌<◌, ◌^◌}
use native.Mathlib.Omega.{arith}
use mir.Syntax.{w32}
use mir.Val.{Fits}
use lib.IntN.{ℤ}
use mathlib.Core.Bool.{Bool, false, not}
use mathlib.Core.Path.{◌≡◌, sym, ap, ◌∙◌}
use Rattle.std.specs.Prelude.{Option, Some, None, Result}
use Rattle.std.specs.Result.{IsErr, IsErrAnd}
use Rattle.parsing.specs.Parse.{Res, and_then, Maybe, none, some}
use Rattle.error.specs.Refusals.{refused}
use Rattle.error.specs.declared.Refusal.{Refusal}
use Rattle.byte_source.proofs.ReadLaws as reading
use Rattle.byte_source.proofs.ReadLaws.{met}
use Rattle.format.specs.Header.{Interval}
use Rattle.format.specs.Index.{Grid as TileGrid, in_sub_file, answer, grid_tiles, in_grid}
use Rattle.types.specs.Types.{interval_of}
use Rattle.types.specs.declared.ZoomInterval.{ZoomInterval}
use Rattle.index.specs.Asked.{Inside}
use Rattle.index.specs.Answers.{interval_found, answer_by}
use Rattle.index.proofs.SignLaws.{passed}
use Rattle.index.proofs.GridLaws.{Counted, counted-grid, good-size, indices}

-- the refusal of an answer, which a `?` hands up
pub answer-up : {A C : Type 0} (view : C → A) (g : Result C Refusal) (e : Refusal) (r : Res A) → IsErr g × IsErrAnd g (λ x. x ≡ e) → refused e ≡ r → answer_by view g ≡ r
answer-up view g e r h p = ap (answer_by view) (met h) ∙ p

module _ {B : Type 0} where
  pub interval-at : (g : Option ZoomInterval) (z : ZoomInterval) (q : Res B) (f : Interval → Res B) (x : Res B) → g ≡ Some z → x ≡ f (interval_of z) → x ≡ in_sub_file (interval_found g) q f
  interval-at g z q f x h p = p ∙ ap (λ s. in_sub_file (interval_found s) q f) (sym h)

  pub interval-missing : (g : Option ZoomInterval) (q : Res B) (f : Interval → Res B) (x : Res B) → g ≡ None → x ≡ q → x ≡ in_sub_file (interval_found g) q f
  interval-missing g q f x h p = p ∙ ap (λ s. in_sub_file (interval_found s) q f) (sym h)

  -- a definition over a sub file, put through another
  pub file-then : {A : Type 0} (r : Maybe Interval) (q : Res A) (f : Interval → Res A) (g : A → ℕ → Res B) (x : Res B) → x ≡ in_sub_file r (and_then q g) (λ z. and_then (f z) g) → x ≡ and_then (in_sub_file r q f) g
  file-then none q f g x h = h
  file-then (some z) q f g x h = h

-- a grid whose tiles were counted has fewer than 2 ^ 32
module _ (n : ℕ) (g : TileGrid) (e : answer n ≡ grid_tiles g) where
  tiles-counted : Counted g n
  tiles-counted = counted-grid g n e

  pub tiles-small : n < 2 ^ 32
  tiles-small = omega (arith, good-size g tiles-counted.good, tiles-counted.count)

  pub tiles-fit : Fits w32 n
  tiles-fit = record { fits = tiles-small }

  pub tile-fits : (tile : ℕ) → tile < n → Fits w32 tile
  tile-fits tile k = record { fits = omega (arith, tiles-small) }

  pub tile-inside : (x y : ℤ) (c : Bool) → c ≡ in_grid g x y → not c ≡ false → Inside g x y
  tile-inside x y c d k = record { good = tiles-counted.good; inside = passed c _ d k }

pub ruleset reads = (reading.reads, answer-up, interval-at, interval-missing, file-then, tiles-small, tiles-fit, tile-fits, tile-inside, indices)
