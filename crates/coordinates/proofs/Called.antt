-- A call of a declared procedure never stops with 26, in a stack that is `Sound`: its arguments agree, as the check saw to (11). So 26 is for calls
-- through a formal: `differing-formal`.
use Rattle.std.specs.Prelude.{ℕ, true, false, List, [], ◌∷◌, map, ◌≡◌, refl, length}
use Rattle.std.proofs.Math.Option.{Option, none, some}
use Rattle.std.proofs.Common.{sym, ap, ◌∙◌}
use Rattle.std.proofs.Math.Path.{ap₂}
use Rattle.language.specs.Basics.{last?, lookup}
use Rattle.language.specs.Text.{Kind, CL, Block, Decl, DO, decl_formals, formal_kinds}
use Rattle.language.specs.Scope.{Meaning, Scope, kind_in, agree}
use Rattle.language.specs.Machine.{Limits}
use Rattle.laws.specs.Tests.{by-lookup, never, some_inj}
use Rattle.laws.specs.Each.{Each}
use Rattle.grammar.specs.Rules.{Visible, ScopedAction, Keeps}
use Rattle.frames.specs.Frame.{Frame, Stack, designates, decl_of, kind_of, frame_stmt}
use Rattle.frame_laws.specs.Finding.{kind_of-found}
use Rattle.coordinates.specs.Chain.{enclosure_of}
use Rattle.coordinates.proofs.Visible.{scope_of}
use Rattle.coordinates.proofs.Designated.{name-designated, designates-procedure, statement-scoped}
use Rattle.coordinates.proofs.Sound.{Sound}

kind-in : (sc : Scope) (n : ℕ) (m : Meaning) → lookup n sc ≡ some m → kind_in sc n ≡ some m.kind
unfolding kind_in
kind-in sc n m e = rw (e, kind_in)

module _ (l : Limits) (t : Block) (keeps : Keeps t) (s : Stack) (sound : Sound l t s) where
  abbrev fs : List Frame
  fs = s.frames

  abbrev sc : Scope
  sc = scope_of (enclosure_of s.frames (length s.frames))

  -- what an argument designates has the kind that the check saw
  kind-seen : (n : ℕ) → Visible sc n → kind_of fs (designates fs n) ≡ kind_in sc n
  kind-seen n v =
      let d = name-designated t keeps fs sound.chained sound.wired n v.0 v.1 in
      kind_of-found fs (designates fs n) d.decl d.declared ∙ ap {B = Option Kind} some d.kind ∙ sym (kind-in sc n v.0 v.1)

  kinds-seen : (xs : List ℕ) → Each (Visible sc) xs → map (kind_of fs) (map (designates fs) xs) ≡ map (kind_in sc) xs
  kinds-seen [] h = refl
  kinds-seen (x ∷ xs) h = ap₂ (λ (k : Option Kind) (ks : List (Option Kind)). k ∷ ks) (kind-seen x h.0) (kinds-seen xs h.1)

  module _ (f : Frame) (last : last? s.frames ≡ some f) (at p : ℕ) (xs : List ℕ) (q : frame_stmt f ≡ some (DO at (CL p xs))) where
    pub declared-agrees : (m : Meaning) (ks : List Kind) → lookup p sc ≡ some m → m.takes ≡ some ks
        → (d : Decl) → decl_of fs (designates fs p) ≡ some d → agree (formal_kinds (decl_formals d)) (map (kind_of fs) (map (designates fs) xs)) ≡ true
    unfolding ScopedAction
    declared-agrees m ks e r d found =
        let a = statement-scoped t keeps fs sound.chained f at (CL p xs) last q in
        let o = designates-procedure t keeps fs sound.chained p m ks e r in
        let same : o.0 ≡ d = some_inj (sym o.1 ∙ found) in
        ap₂ agree (ap (λ (c : Decl). formal_kinds (decl_formals c)) (sym same) ∙ o.2) (kinds-seen xs a.arguments) ∙ a.agreed m ks e r

    -- where the arguments differ, the called name is a formal: its meaning does not say what it takes
    pub differing-formal : (d : Decl) → decl_of fs (designates fs p) ≡ some d → agree (formal_kinds (decl_formals d)) (map (kind_of fs) (map (designates fs) xs)) ≡ false
        → (m : Meaning) → lookup p sc ≡ some m → m.takes ≡ none
    differing-formal d found differ m e = by-lookup m.takes (λ r. r) (λ ks r. never (declared-agrees m ks e r d found) differ)
