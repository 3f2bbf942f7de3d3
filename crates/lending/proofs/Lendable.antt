-- A struct that can be lent, and one that replies a number and such a struct: what a walk needs of them, whatever fields the lent one has and however wide
-- the number is.
-- Assumes nothing.
use mathlib.Core.Path.{◌≡◌, refl, ap, sym, ◌∙◌}
use mathlib.Core.HLevel.{is_prop→PathP}
use Prim.Native.Nat.{ℕ, ◌<◌, ◌^◌}
use mathlib.Core.List.{[], ◌∷◌, List}
use mir.Syntax.{Width, Sym, Ty, ty_ref, named, mut}
use mir.Val.{Val, vint, vptr, bits}
use base.Stored.{Coded-set, coded_unit, coded_ℕ, coded×}
use base.Fml.{GName, Lft, Fml}
use denote.RattleType.{RattleType, Denots}
use denote.Laws.{Is}
use denote.Plain.{UInt, uint_Tells, uint_Lawful}
use denote.Param.Drops.{still_Drops}
use denote.Memory.{pointee}
use denote.Ref.{MutBor, MutRef}
use denote.Struct.Field.{Field, rows, uint_field}
use denote.Struct.Values.{Values, intos}
use denote.Struct.Declared.{Declared, fields, shape, row, field}
use denote.Struct.Struct.{layout, Plains}
use denote.Struct.Laws as LL

-- a struct of plain data, with its laws
pub record Lendable : Type 2 where
  pub type : Declared
  pub laws : LL.Laws type
  pub lowers : LL.Lowered type
  pub plain : Plains (fields type)

module _ (T : Lendable) where
  abbrev pub Value : Type 0
  Value = T.type.D

  abbrev pub row_of : RattleType
  row_of = row T.type

  abbrev pub mir_of : Ty
  mir_of = layout (shape T.type)

  abbrev pub vals : Value → List Val
  vals = LL.vals T.type T.laws

  abbrev pub val : Value → Val
  val = LL.val T.type T.laws

  -- a reference to it, as the code names it
  abbrev pub reference : Ty
  reference = ty_ref (named 0) mut (pointee row_of.written)

  module _ (b o : ℕ) where
    abbrev pub lent_value : GName → Value → MutBor Value
    lent_value δ h = record { ref_ptr = (b, o); ghost_name = δ; now = h }

    -- what is had of the reference to the value h
    abbrev pub held : Lft → GName → Value → Fml
    held κ δ h = (MutRef (named 0) κ row_of).own_val (lent_value δ h) (vptr b o ∷ [])

  -- == a reply: its answer, and then the value ==

  module _ (w : Width) where
    abbrev pub replied : List Field
    replied = uint_field w ∷ field T.type ∷ []

    abbrev pub reply_of : ℕ → Value → Denots (rows replied)
    reply_of answer d = (answer, (T.type.to d, tt))

-- a struct of these two fields, the answer of the width `wide`: it is one to one with them
pub record Replying (T : Lendable) : Type 2 where
  pub name : Sym
  pub wide : Width
  pub Reply : Type 0
  pub answer : Reply → ℕ
  pub value : Reply → Value T
  pub told_apart : (x y : Reply) → reply_of T wide (answer x) (value x) ≡ reply_of T wide (answer y) (value y) → x ≡ y

-- the laws of a number as a field, of any width: the library has them by name for each
abbrev number_laws : (w : Width) → LL.FLaws (uint_field w)
number_laws w = record { val = vint w; tells = uint_Tells w; low = vint w; low-is = uint_Tells w; lawful = λ 𝓛. uint_Lawful 𝓛 w; drops = λ 𝓛. still_Drops 𝓛 (UInt w) (λ k. refl) }

module _ (T : Lendable) (R : Replying T) where
  abbrev FieldValues : Type 0
  FieldValues = Values (replied T R.wide)

  abbrev field_values : R.Reply → FieldValues
  field_values r = (R.answer r, (R.value r, tt))

  -- a reply is its answer and its value
  apart : (x y : R.Reply) → field_values x ≡ field_values y → x ≡ y
  apart x y e = R.told_apart x y (ap (intos (replied T R.wide)) e)

  -- an answer and a value are those of at most one reply
  abbrev Made : FieldValues → Type 0
  Made v = (r : R.Reply) × (field_values r ≡ v)

  parts_set : IsSet FieldValues
  parts_set = Coded-set (coded× coded_ℕ (coded× (row_of T).coded coded_unit))

  pub made_once : (v : FieldValues) → IsProp (Made v)
  made_once v p q = λ i. (apart p.0 q.0 (p.1 ∙ sym q.1) i, is_prop→PathP (λ j. field_values (apart p.0 q.0 (p.1 ∙ sym q.1) j) ≡ v) (λ j. parts_set (field_values (apart p.0 q.0 (p.1 ∙ sym q.1) j)) v) p.1 q.1 i)

  abbrev pub reply_type : Declared
  reply_type = record {
    name = R.name;
    args = [];
    types = [];
    parts = replied T R.wide;
    D = R.Reply;
    to = λ r. reply_of T R.wide (R.answer r) (R.value r);
    to_one = R.told_apart;
    as_values = field_values;
    to_is = λ r. refl;
    cover = record { Ghost = Made; ghosts = λ r. (r, refl); make = λ v g. g.0; eta = λ r. refl; beta = λ v g. g.1 };
    propositions = made_once;
  }

  abbrev pub reply_laws : LL.Laws reply_type
  reply_laws = (number_laws R.wide, (LL.field_laws T.type T.laws T.lowers, tt))

  abbrev pub reply_row : RattleType
  reply_row = row reply_type

  abbrev pub reply_mir : Ty
  reply_mir = layout (shape reply_type)

  -- of a reply that is owned: its answer fits, and its value is one
  abbrev Parts : R.Reply → Type 0
  Parts r = (R.answer r < 2 ^ bits R.wide) × Is (row_of T) (R.value r) (vals T (R.value r))

  pub parts : (r : R.Reply) (vs : List Val) → Is reply_row r vs → Parts r
  parts r vs is = let all = LL.owed reply_type reply_laws r vs is in (all.0.1, all.1.0)
