-- Document 01, "The stream and the collected tile": results go to the front of lent lists; entries behind them keep their values.
use Rattle.std.specs.Prelude.{ℕ, ◌+◌, ◌≤◌, ◌≡◌, refl, Bool, ◌&&◌, cond, List, ◌++◌, leb, Float, length, drop}
use Rattle.std.proofs.Common.{arith, zero-add, ◌∙◌}
use Rattle.std.proofs.lemmas.List.Edits.{sets, sets-eq}
use Rattle.parsing.specs.Parse.{Res, ok, no}
use Rattle.error.specs.Refusals.{lengths}

-- a list with these values at its front
abbrev pub front : {A : Type 0} → List A → List A → List A
front xs l = xs ++ drop (length xs) l

-- the lists that a way's body is lent: node counts, latitudes and longitudes
pub record LentLists : Type 0 where
  pub counts : List ℕ
  pub latitudes : List Float
  pub longitudes : List Float

-- an answer, and the lent lists after the call
pub record Replied (L A : Type 0) : Type 0 where
  pub answer : A
  pub lists : L

abbrev pub Reply : Type 0 → Type 0
Reply A = Replied LentLists A

-- no lent list is shorter than what is to go to it
abbrev pub fits : (values lent : LentLists) → Bool
fits v l =
    leb (length v.counts) (length l.counts) && leb (length v.latitudes) (length l.latitudes)
    && leb (length v.longitudes) (length l.longitudes)

-- the values go to the front of the lent lists; entries behind them keep their values
abbrev pub written : (values lent : LentLists) → LentLists
written v l = record {
  counts = front v.counts l.counts;
  latitudes = front v.latitudes l.latitudes;
  longitudes = front v.longitudes l.longitudes;
}

-- the lengths that refusal 15 gives: the counts of blocks, nodes and nodes; no further list and no buffer is lent
abbrev pub needed : LentLists → List ℕ
needed v = lengths (length v.counts) (length v.latitudes) (length v.longitudes) 0 0 0

-- The rule for lists of any kind: whether the values fit, what is written then, and the lengths that refusal 15 gives else.
pub record Lending (L : Type 0) : Type 0 where
  pub room : (values lent : L) → Bool
  pub put : (values lent : L) → L
  pub need : (values : L) → List ℕ

-- What was decoded whole: its value as it is shown, and its lists written; 15 if a lent list is shorter, which comes only when nothing
-- else is refused. With any refusal the lists are as before the call.
abbrev pub deliver_to : {L A B : Type 0} → Lending L → (show : A → B) → (values : A → L) → Res A → (lent : L) → Replied L (Res B)
deliver_to k show values (ok a e) l =
    cond (k.room (values a) l) (record { answer = ok (show a) e; lists = k.put (values a) l }) (record { answer = no 15 (k.need (values a)); lists = l })
deliver_to k show values (no n v) l = record { answer = no n v; lists = l }

-- of a way's body
abbrev pub deliver : {A B : Type 0} → (show : A → B) → (values : A → LentLists) → Res A → (lent : LentLists) → Reply (Res B)
deliver show values r l = deliver_to (record { room = fits; put = written; need = needed }) show values r l

-- as a run of stores leaves it
pub sets-front : {A : Type 0} (xs l : List A) → length xs ≤ length l → sets l 0 xs ≡ front xs l
sets-front xs l h = let k : 0 + length xs ≤ length l = omega arith in sets-eq xs l 0 k ∙ rw zero-add refl
