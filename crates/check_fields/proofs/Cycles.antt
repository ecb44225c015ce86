-- A cycle of calls, by a measure of each member: what a member may assume where its measure is a number, and what it may ask of a member that it calls.
-- Assumes nothing.
use Prim.Native.Nat.{ℕ, ◌<◌}
use mathlib.Core.List.{List}
use borrow.Fn.Kind.{ParamKind}
use borrow.Fn.Kinds.{In}
use borrow.Fn.PlainCycle.{Measures, is, falls, and}

abbrev pub entered : (n : ℕ) (ps : List (ParamKind n)) → Measures n ps ℕ → In n ps → ℕ → In n ps
entered n ps μ pre t = and n ps (is n ps μ t) pre

abbrev pub called : (n : ℕ) (ps : List (ParamKind n)) → Measures n ps ℕ → In n ps → ℕ → In n ps
called n ps μ pre t = and n ps (falls n ps ◌<◌ μ t) pre
