-- A type of plain data as a proof by hand uses it: its one machine value is a function of the denotation, it is had for nothing, and it can be stored.
--     Datum            the type, with its laws.        Good D x     that x can be one of its values.        typed        so it can be stored
--     usizes, words32, words16, ints32, bools, units       the built-in ones.        structs      a declared struct whose fields are such.        enums        a
--              declared enum whose variants' fields are such
-- Assumes nothing: the laws are the types' own.
use Rattle.std.specs.Prelude.{◌≡◌, refl, List, [], ◌∷◌, T}
use Rattle.std.proofs.Common.{subst}
use seplogic.Ra.Ura.{Ura}
use mir.Syntax.{Ty, w16, w32, w64, ty_int, ty_bool, ty_unit}
use mir.Val.{Val, WT, has_ty, of_z, vint, vbool, vunit}
use types.Logic.{Logic}
use Rattle.std.specs.Borrow.{RattleType}
use denote.Laws.{Is, Tells, Makes, Lawful, Typed}
use denote.Plain.{UInt, Boolean, Nothing, uint_Tells, uint_Makes, uint_Lawful, bool_Tells, bool_Makes, bool_Lawful, Nothing-Tells, Nothing-Makes, Nothing-Lawful}
use denote.Struct.Declared.{Declared, row as struct_row, fields, shape}
use denote.Struct.Struct.{Plains, layout}
use denote.Struct.Laws as L
use denote.Signed.{SInt, sint_Tells, sint_Makes, sint_Lawful}
use denote.Enum.Enum.{Few, Plainss, layout as enum_layout}
use denote.Enum.Declared.{Declared as DeclaredEnum, row as enum_row, variants, shape as enum_shape}
use denote.Enum.Laws as E

pub record Datum : Type 2 where
  pub type : RattleType
  pub val : type.Denot → Val
  pub mir : Ty
  pub tells : Tells type (Is type) (λ y. val y ∷ [])
  pub makes : {M : Type 1} {𝓤 : Ura M} (𝓛 : Logic 𝓤) → Makes 𝓛 type (Is type)
  pub one : type.mir ≡ mir ∷ []
  pub lawful : {M : Type 1} {𝓤 : Ura M} (𝓛 : Logic 𝓤) → Lawful 𝓛 type

abbrev pub Good : (D : Datum) → D.type.Denot → Type 0
Good D x = Is D.type x (D.val x ∷ [])

pub typed : {M : Type 1} {𝓤 : Ura M} (𝓛 : Logic 𝓤) (D : Datum) (x : D.type.Denot) → Good D x
    → T (has_ty D.mir (D.val x)) × WT (D.val x)
typed 𝓛 D x is = (subst (λ (τs : List Ty). Typed τs (D.val x ∷ [])) D.one ((D.lawful 𝓛).typed x (D.val x ∷ []) is)).0

abbrev pub usizes : Datum
usizes = record {
  type = UInt w64;
  val = vint w64;
  mir = ty_int w64;
  tells = uint_Tells w64;
  makes = λ 𝓛. uint_Makes 𝓛 w64;
  one = refl;
  lawful = λ 𝓛. uint_Lawful 𝓛 w64;
}

abbrev pub words32 : Datum
words32 = record {
  type = UInt w32;
  val = vint w32;
  mir = ty_int w32;
  tells = uint_Tells w32;
  makes = λ 𝓛. uint_Makes 𝓛 w32;
  one = refl;
  lawful = λ 𝓛. uint_Lawful 𝓛 w32;
}

abbrev pub words16 : Datum
words16 = record {
  type = UInt w16;
  val = vint w16;
  mir = ty_int w16;
  tells = uint_Tells w16;
  makes = λ 𝓛. uint_Makes 𝓛 w16;
  one = refl;
  lawful = λ 𝓛. uint_Lawful 𝓛 w16;
}

abbrev pub ints32 : Datum
ints32 = record {
  type = SInt w32;
  val = λ z. vint w32 (of_z w32 z);
  mir = ty_int w32;
  tells = sint_Tells w32;
  makes = λ 𝓛. sint_Makes 𝓛 w32;
  one = refl;
  lawful = λ 𝓛. sint_Lawful 𝓛 w32;
}

abbrev pub bools : Datum
bools = record {
  type = Boolean;
  val = vbool;
  mir = ty_bool;
  tells = bool_Tells;
  makes = λ 𝓛. bool_Makes 𝓛;
  one = refl;
  lawful = λ 𝓛. bool_Lawful 𝓛;
}

abbrev pub units : Datum
units = record {
  type = Nothing;
  val = λ u. vunit;
  mir = ty_unit;
  tells = Nothing-Tells;
  makes = λ 𝓛. Nothing-Makes 𝓛;
  one = refl;
  lawful = λ 𝓛. Nothing-Lawful 𝓛;
}

-- a declared struct, from what is generated for it
abbrev pub structs : (T : Declared) → L.Laws T → Plains (fields T) → Datum
structs T laws plain = record {
  type = struct_row T;
  val = L.val T laws;
  mir = layout (shape T);
  tells = L.tells T laws;
  makes = λ 𝓛. L.makes T plain 𝓛;
  one = refl;
  lawful = λ 𝓛. L.lawful T laws 𝓛;
}

-- a declared enum, likewise. It has at most 256 variants
abbrev pub enums : (T : DeclaredEnum) → E.Laws T → Plainss (variants T) → Few (enum_shape T) → Datum
enums T laws plain few = record {
  type = enum_row T;
  val = E.val T laws;
  mir = enum_layout (enum_shape T);
  tells = E.tells T laws;
  makes = λ 𝓛. E.makes T plain 𝓛;
  one = refl;
  lawful = λ 𝓛. E.lawful T laws 𝓛 few;
}
