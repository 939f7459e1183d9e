-- Reads of one or more bytes are refused at the end of the map, and in the same way at every place behind it. `search ends` proves
-- `PastEnd` of any parser written with `do` whose first read takes a byte.
use Prim.Native.Nat.{ℕ, zero, suc, ◌+◌, ◌-◌, ◌≤◌, ◌<◌}
use native.Mathlib.Omega.{arith}
use mathlib.Core.Path.{◌≡◌, refl}
use mathlib.Core.Bool.{Bool, true, false}
use mathlib.Core.List.{List, [], ◌∷◌}
use lib.ListN.{length}
use borrow.Author.Rules.{rules}
use borrow.Author.Tests.{lt-leb}
use Rattle.parsing.specs.Parse.{Res, ok, no, Parser, and_then, bind, return, pick, many, here, byte, chunk, part, optional, some, none}
use Rattle.parsing.proofs.Steps.{byte_past}

pub record PastEnd {A : Type 0} (p : Parser A) : Type 0 where
  pub stops : (m : List ℕ) (i : ℕ) → length m ≤ i → p m i ≡ no 1 []

pub byte-end : PastEnd byte
byte-end = record { stops = byte_past }

pub chunk_end : (n : ℕ) → 1 ≤ n → PastEnd (chunk n)
chunk_end zero b = absurd (omega arith)
chunk_end (suc n) b = record { stops = λ m i h. rw (lt-leb (i + suc n) (length m) (omega arith)) }

pub bind-end : {A B : Type 0} {p : Parser A} (f : A → Parser B) → PastEnd p → PastEnd (bind p f)
bind-end f e = record { stops = λ m i h. rw (e.stops m i h) }

pub many-end : {A : Type 0} {p : Parser A} (n : ℕ) → 1 ≤ n → PastEnd p → PastEnd (many p n)
many-end zero b e = absurd (omega arith)
many-end (suc n) b e = bind-end (λ a. bind (many _ n) (λ l. return (a ∷ l))) e

pub pick_end : {A : Type 0} {p q : Parser A} (c : Bool) → PastEnd p → PastEnd q → PastEnd (pick c p q)
pick_end true d e = d
pick_end false d e = e

-- or it reads nothing
pub data AtEnd {A : Type 0} (i : ℕ) : Res A → Type 0 where
  stopped : AtEnd i (no 1 [])
  stays : (a : A) → AtEnd i (ok a i)

pub record Still {A : Type 0} (p : Parser A) : Type 0 where
  pub stops : (m : List ℕ) (i : ℕ) → length m ≤ i → AtEnd i (p m i)

pub then-end : {A B : Type 0} {p : Parser A} {f : A → Parser B} → Still p → ((a : A) → PastEnd (f a)) → PastEnd (bind p f)
then-end {A = A} {p = p} {f = f} s g = record { stops = λ m i h. go m i h (p m i) (s.stops m i h) }
  where
    go : (m : List ℕ) (i : ℕ) → length m ≤ i → (r : Res A) → AtEnd i r → and_then r (λ a e. f a m e) ≡ no 1 []
    go m i h r stopped = refl
    go m i h r (stays a) = (g a).stops m i h

pub end-still : {A : Type 0} {p : Parser A} → PastEnd p → Still p
end-still s = record { stops = λ m i h. rw (s.stops m i h) stopped }

pub return-still : {A : Type 0} (a : A) → Still (return a)
return-still a = record { stops = λ m i h. stays a }

pub here-still : Still here
here-still = record { stops = λ m i h. stays i }

pub bind-still : {A B : Type 0} {p : Parser A} {f : A → Parser B} → Still p → ((a : A) → Still (f a)) → Still (bind p f)
bind-still {A = A} {B = B} {p = p} {f = f} s g = record { stops = λ m i h. go m i h (p m i) (s.stops m i h) }
  where
    go : (m : List ℕ) (i : ℕ) → length m ≤ i → (r : Res A) → AtEnd i r → AtEnd i (and_then r (λ a e. f a m e))
    go m i h r stopped = stopped
    go m i h r (stays a) = (g a).stops m i h

pub pick-still : {A : Type 0} {p q : Parser A} (c : Bool) → Still p → Still q → Still (pick c p q)
pick-still true s t = s
pick-still false s t = t

pub chunk-still : (n : ℕ) → Still (chunk n)
chunk-still zero = return-still []
chunk-still (suc n) = end-still (chunk_end (suc n) (omega arith))

pub part-still : (n : ℕ) → Still (part n)
unfolding part
part-still n = bind-still here-still (λ i. bind-still (chunk-still n) (λ b. return-still _))

pub part_end : (n : ℕ) → 1 ≤ n → PastEnd (part n)
unfolding part
part_end n b = then-end here-still (λ i. bind-end _ (chunk_end n b))

pub optional-still : {A : Type 0} (c : Bool) {p : Parser A} → Still p → Still (optional c p)
unfolding optional
optional-still true s = bind-still s (λ a. return-still (some a))
optional-still false s = return-still none

pub many-still : {A : Type 0} {p : Parser A} → Still p → (n : ℕ) → Still (many p n)
many-still s zero = return-still []
many-still s (suc n) = bind-still s (λ a. bind-still (many-still s n) (λ l. return-still (a ∷ l)))

pub ruleset ends = (rules, byte-end, chunk_end, part_end, bind-end, then-end, many-end, pick_end, end-still, return-still, here-still, bind-still, pick-still, chunk-still, part-still, optional-still, many-still)
