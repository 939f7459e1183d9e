-- What crosses to a program in another language: a number, lists of words, of signed numbers, and of degrees.
use Rattle.std.specs.Prelude.{ℕ, ℤ, pos, Bool, cond, ◌≡◌, List, [], map as mapped, Float, ltb, length, get_or, set}
use Rattle.std.proofs.Common.{ap, ◌∙◌}
use Rattle.std.proofs.lemmas.List.Edits.{sets}
use Rattle.error.specs.Refusals.{number_of, values_of, lent_number, lent_values}
use Rattle.error.specs.declared.LentRefusal.{LentRefusal}
use Rattle.error.specs.declared.Refusal.{Refusal}

pub record Wire : Type 0 where
  pub number : ℕ
  pub lists : List (List ℕ)
  pub signed : List ℤ
  pub degrees : List Float

abbrev pub wire : ℕ → List (List ℕ) → List ℤ → List Float → Wire
wire n l z d = record { number = n; lists = l; signed = z; degrees = d }

-- what a program lends to a call: there is no number yet
abbrev pub lending : List (List ℕ) → List ℤ → List Float → Wire
lending l z d = wire 0 l z d

-- each array has so many words
pub record Lent (words : List ℕ) (numbers floats : ℕ) (w : Wire) : Type 0 where
  pub lists : mapped length w.lists ≡ words
  pub signed : length w.signed ≡ numbers
  pub degrees : length w.degrees ≡ floats

-- An answer writes its own words, and the others keep the values that were lent. Words from i on, of list k:
abbrev pub put : (k i : ℕ) → List ℕ → Wire → Wire
put k i xs w = record { number = w.number; lists = set w.lists k (sets (get_or w.lists k []) i xs); signed = w.signed; degrees = w.degrees }

-- list k as a whole
abbrev pub put_all : (k : ℕ) → List ℕ → Wire → Wire
put_all k xs w = record { number = w.number; lists = set w.lists k xs; signed = w.signed; degrees = w.degrees }

abbrev pub put_signed : (i : ℕ) → List ℤ → Wire → Wire
put_signed i xs w = record { number = w.number; lists = w.lists; signed = sets w.signed i xs; degrees = w.degrees }

abbrev pub put_degrees : (i : ℕ) → List Float → Wire → Wire
put_degrees i xs w = record { number = w.number; lists = w.lists; signed = w.signed; degrees = sets w.degrees i xs }

abbrev pub numbered : ℕ → Wire → Wire
numbered n w = record { number = n; lists = w.lists; signed = w.signed; degrees = w.degrees }

-- a refusal: document 01's number, and its values from the first word of the first list on
abbrev pub put_refusal : Refusal → Wire → Wire
put_refusal r w = numbered (number_of r) (put 0 0 (values_of r) w)

abbrev pub put_lent_refusal : LentRefusal → Wire → Wire
put_lent_refusal r w = numbered (lent_number r) (put 0 0 (lent_values r) w)

-- What crosses back is what the inner function answers: an answer for which the inner contract holds, as it is encoded.
pub record Crosses {A : Type 0} (encode : A → Wire) (Is : A → Type 0) (w : Wire) : Type 0 where
  pub answer : A
  pub is : Is answer
  pub crossed : w ≡ encode answer

-- Encode, then decode, gives what the other program needs of the answer (in Codecs.antt of the crates above, `x_in` decodes what `x_wire`
-- encodes, and `x-back` says so),
pub record Decoder {A B : Type 0} (encode : A → Wire) (view : A → B) : Type 0 where
  pub decode : Wire → B
  pub back : (a : A) → decode (encode a) ≡ view a

-- and if it needs the whole answer, is the identity.
abbrev pub Codec : {A : Type 0} → (A → Wire) → Type 0
Codec encode = Decoder encode (λ a. a)

-- So what the other program decodes is seen of an answer for which the inner contract holds.
pub received : {A B : Type 0} (encode : A → Wire) (view : A → B) (c : Decoder encode view) (Is : A → Type 0) (w : Wire) (x : Crosses encode Is w) → c.decode w ≡ view x.answer
received encode view c Is w x = ap c.decode x.crossed ∙ c.back x.answer

-- list k, and its word i
abbrev pub list_of : Wire → (k : ℕ) → List ℕ
list_of w k = get_or w.lists k []

abbrev pub word : Wire → (k i : ℕ) → ℕ
word w k i = get_or (list_of w k) i 0

-- signed number i
abbrev pub signed_at : Wire → ℕ → ℤ
signed_at w i = get_or w.signed i (pos 0)

abbrev pub truth : ℕ → Bool
truth n = ltb 0 n

-- a word that says whether something is there
abbrev pub there : {A : Type 0} → ℕ → (absent present : A) → A
there n a b = cond (truth n) b a
