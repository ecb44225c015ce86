-- A type with the laws of its `&`, which a law over every type asks for: today's library has them beside the type, the older one had them for each.
--     Row              a type; how a `&` to its value is had twice (`laws`), made of what lies in memory (`lends`), and opened, where the type can be copied
--         and its relation tells its machine values (`opens`)
--     whole R          any type, with a `&` that is a share of the whole value, as each had it in the older library. No law is asked. Today a number's, a
--         struct's or an enum's `&` is another, which the next have
--     plain R L c      a type that can be copied (`denote.Copied`), with the `&` that it has.        declared_struct, declared_enum      so a declared type
--         whose fields are
--     LentWhole R      a value in memory is lent as a `&` with no token.        rows-lent, rows-cut, rows-opened       of elements side by side, from one element's
-- Assumes `Logic`.
use Rattle.std.specs.Prelude.{ℕ, List, [], ◌∷◌, ◌+◌}
use seplogic.Ra.Ura.{Ura}
use base.Fraction.{full_share}
use mir.Val.{Val}
use types.Logic.{Logic}
use denote.Sharing.{one}
use denote.SharingLaws.{one_shr_laws}
use denote.RattleType.{RattleType, RowLaws}
use denote.Laws.{Is, Tells, Copy}
use denote.Memory.{part_at, shared_of, mem}
use denote.Slice.{elements_shared}
use denote.Index.{row}
use denote.Lends.{Lent, Lent-nothing, Lent-one, Lent-both}
use denote.Opens.{Opens, Opened, Twice-of, Cuts, Cuts-Halves, Cuts-nothing, Cuts-both, Opened-one, Opened-nothing, Opened-both}
use denote.Copied.{Copied, told_Cuts}
use denote.Struct.Declared.{Declared as DeclaredStruct, row as struct_row}
use denote.Struct.Laws.{Copyables, copied as struct_copied}
use denote.Enum.Declared.{Declared as DeclaredEnum, row as enum_row}
use denote.Enum.Laws.{Copyabless, copied as enum_copied}

-- a value of the type in memory is lent as a `&`, with no token
abbrev pub LentWhole : {M : Type 1} {𝓤 : Ura M} → Logic 𝓤 → RattleType → Type 1
LentWhole 𝓛 R = (x : R.Denot) (b o : ℕ) → Lent 𝓛 (part_at R full_share x b o) (shared_of R x b o)

pub record Row : Type 2 where
  pub type : RattleType
  pub laws : RowLaws type
  pub lends : (M : Type 1) (𝓤 : Ura M) (𝓛 : Logic 𝓤) → LentWhole 𝓛 type
  pub opens : (M : Type 1) (𝓤 : Ura M) (𝓛 : Logic 𝓤) (vals : type.Denot → List Val) → Tells type (Is type) vals → Copy 𝓛 type → Opens 𝓛 type

abbrev wholly : RattleType → RattleType
wholly R = record {
  Denot = R.Denot;
  mir = R.mir;
  written = R.written;
  reaches = R.reaches;
  lives = R.lives;
  own_val = R.own_val;
  exit = R.exit;
  coded = R.coded;
  shr_at = λ x b o. one (λ q. part_at R q x b o);
}

abbrev pub whole : RattleType → Row
whole R = record {
  type = wholly R;
  laws = λ x b o. one_shr_laws (λ q. part_at R q x b o);
  lends = λ M 𝓤 𝓛 x b o. Lent-one 𝓛 (λ q. part_at R q x b o) full_share;
  opens = λ M 𝓤 𝓛 vals tl cp x b o. (
    Opened-one 𝓛 (λ q. part_at R q x b o) (Cuts-Halves 𝓛 (λ q. part_at R q x b o) (told_Cuts 𝓛 (wholly R) vals tl cp x b o)),
    Twice-of 𝓛 (one (λ q. part_at R q x b o)) (one_shr_laws (λ q. part_at R q x b o)),
  );
}

abbrev pub plain : (R : RattleType) → RowLaws R → ((M : Type 1) (𝓤 : Ura M) (𝓛 : Logic 𝓤) → Copied 𝓛 R) → Row
plain R L c = record {
  type = R;
  laws = L;
  lends = λ M 𝓤 𝓛 x b o. (c M 𝓤 𝓛).lends full_share x b o;
  opens = λ M 𝓤 𝓛 vals tl cp. (c M 𝓤 𝓛).opens;
}

abbrev pub declared_struct : (T : DeclaredStruct) → Copyables T.parts → RowLaws (struct_row T) → Row
declared_struct T cs L = plain (struct_row T) L (λ M 𝓤 𝓛. struct_copied T cs 𝓛)

abbrev pub declared_enum : (T : DeclaredEnum) → Copyabless T.parts → RowLaws (enum_row T) → Row
declared_enum T cs L = plain (enum_row T) L (λ M 𝓤 𝓛. enum_copied T cs 𝓛)

-- ---- elements side by side, as a slice has them
module _ {M : Type 1} {𝓤 : Ura M} (𝓛 : Logic 𝓤) (R : RattleType) where
  abbrev step : ℕ
  step = (mem R).size

  pub rows-lent : LentWhole 𝓛 R → (xs : List R.Denot) (b o : ℕ)
      → Lent 𝓛 (row R full_share xs b o) (elements_shared R xs b o)
  rows-lent l [] b o = Lent-nothing 𝓛
  rows-lent l (x ∷ xs) b o = Lent-both 𝓛 (part_at R full_share x b o) (row R full_share xs b (o + step)) (shared_of R x b o)
      (elements_shared R xs b (o + step)) (l x b o) (rows-lent l xs b (o + step))

  module _ (cuts : (x : R.Denot) (b o : ℕ) → Cuts 𝓛 (λ q. part_at R q x b o)) where
    pub rows-cut : (xs : List R.Denot) (b o : ℕ) → Cuts 𝓛 (λ q. row R q xs b o)
    rows-cut [] b o = Cuts-nothing 𝓛
    rows-cut (x ∷ xs) b o = Cuts-both 𝓛 (λ q. part_at R q x b o) (λ q. row R q xs b (o + step)) (cuts x b o) (rows-cut xs b (o + step))

    pub rows-opened : Opens 𝓛 R → (xs : List R.Denot) (b o : ℕ) → Opened 𝓛 (λ q. row R q xs b o) (elements_shared R xs b o)
    rows-opened op [] b o = Opened-nothing 𝓛
    rows-opened op (x ∷ xs) b o = Opened-both 𝓛 (λ q. part_at R q x b o) (λ q. row R q xs b (o + step)) (shared_of R x b o)
        (elements_shared R xs b (o + step)) (cuts x b o) (rows-cut xs b (o + step)) (op x b o).0 (rows-opened op xs b (o + step))
