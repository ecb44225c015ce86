-- What names and designators depend on. Read `LikeFrames fs gs` as: frame by frame, gs has the formals, text, link and formals' words
-- that fs has. Then each name is found at the same place and designates the same, and each designator has the same declaration.
use Prim.Native.Nat.{ℕ, zero, suc, pred, ◌-◌, ◌<◌}
use Rattle.std.proofs.Common.{arith, sym, ap, ap₂, ◌∙◌, leb-true}
use Rattle.std.proofs.Math.Path.{◌≡◌, refl, fun_ext}
use Rattle.std.specs.Prelude.{List, ◌++◌, leb, pos, length, get_or}
use Rattle.std.proofs.Math.Option.{none, some}
use Rattle.std.proofs.Math.ListN.{get_elem?}
use Rattle.language.specs.Text.{Action, block_decls, formal_names, declared_names}
use Rattle.laws.specs.Tests.{split, by-lookup}
use Rattle.frames.specs.Frame.{Frame, NamePlace, numbered, frame_names, seek_from, seek_name, designator_in, finally, designates, links_followed, frame_number, place, decl_of, kind_of, map_action}
use Rattle.laws.specs.Lists.{get_elem-past, get_elem-none}
use Rattle.frame_laws.specs.Finding.{decl_of-found, decl_of-none, kind_of-found, kind_of-none, seek_name-starts, seek-same, designates-found, designates-none, links-found, links-none, finally-formal, finally-declared}
use Rattle.frames.specs.Positions.{position-range}
use Rattle.frame_laws.specs.Names.{NameFound, seek_name-found}

pub record Like (f g : Frame) : Type 0 where
  pub formals : g.formals ≡ f.formals
  pub text : g.text ≡ f.text
  pub link : g.link ≡ f.link
  pub handed : (i : ℕ) → i < length f.formals → get_or g.words i (pos 0) ≡ get_or f.words i (pos 0)

pub record LikeFrames (fs gs : List Frame) : Type 0 where
  pub count : length gs ≡ length fs
  pub each : (k : ℕ) (f : Frame) → get_elem? fs k ≡ some f → (g : Frame) × (get_elem? gs k ≡ some g) × Like f g

pub like-same : (f : Frame) → Like f f
like-same f = record { formals = refl; text = refl; link = refl; handed = λ i l. refl }

names-like : (f g : Frame) → Like f g → frame_names g ≡ frame_names f
unfolding frame_names
names-like f g h = ap₂ (λ a b. formal_names a ++ declared_names b) h.formals h.text

module _ (fs gs : List Frame) (like : LikeFrames fs gs) where
  pub numbered-none : (k : ℕ) → numbered fs k ≡ none → numbered gs k ≡ none
  unfolding numbered
  numbered-none zero e = refl
  numbered-none (suc k) e = get_elem-none gs k (omega (arith, get_elem-past fs k e, like.count))

  pub numbered-like : (k : ℕ) (f : Frame) → numbered fs k ≡ some f → (g : Frame) × (numbered gs k ≡ some g) × Like f g
  unfolding numbered
  numbered-like zero f e = let z : ◌≡◌ {A = ℕ} 0 1 = cc in absurd (omega arith)
  numbered-like (suc k) f e = like.each k f e

  seek-like : (m k n j : ℕ) → seek_from m gs k n j ≡ seek_from m fs k n j
  seek-like m k n j =
      seek-same (λ i. Unit {0}) fs gs
      (record { absent = λ i h e. numbered-none i e; present = λ i f h e. let q = numbered-like i f e in (q.0, q.1, names-like f q.0 q.2, q.2.link, tt) }) m k n j tt

  pub seek_name-like : (n : ℕ) → seek_name gs n ≡ seek_name fs n
  seek_name-like n =
      seek_name-starts gs n ∙ ap (λ a. seek_from a gs a n 0) like.count ∙ seek-like (length fs) (length fs) n 0 ∙ sym (seek_name-starts fs n)

  pub links_followed-like : (n : ℕ) → links_followed gs n ≡ links_followed fs n
  links_followed-like n =
      by-lookup (seek_name fs n) (λ e. links-none gs n (seek_name-like n ∙ e) ∙ sym (links-none fs n e)) (λ p e. links-found gs n p (seek_name-like n ∙ e) ∙ sym (links-found fs n p e))

  finally-like : (n : ℕ) (p : NamePlace) → NameFound fs n p → finally gs p ≡ finally fs p
  finally-like n p h =
      let f = h.frame in
      let q = numbered-like p.number f h.stands in
      let b = position-range n 1 p.position (frame_names f) h.named in
      let c = ap (λ x. leb p.position (length x)) q.2.formals in
      split (leb p.position (length f.formals))
      (λ t. finally-formal gs p q.0 q.1 (c ∙ t) ∙ ap designator_in (q.2.handed (pred p.position) (omega (arith, b.0, leb-true p.position (length f.formals) t))) ∙ sym (finally-formal fs p f h.stands t))
      (λ t. finally-declared gs p q.0 q.1 (c ∙ t) ∙ sym (finally-declared fs p f h.stands t))

  pub designates-like : (n : ℕ) → designates gs n ≡ designates fs n
  designates-like n =
      by-lookup (seek_name fs n) (λ e. designates-none gs n (seek_name-like n ∙ e) ∙ sym (designates-none fs n e))
      (λ p e. designates-found gs n p (seek_name-like n ∙ e) ∙ finally-like n p (seek_name-found fs n p e) ∙ sym (designates-found fs n p e))

  pub map_action-like : (a : Action) → map_action (designates gs) a ≡ map_action (designates fs) a
  map_action-like a = ap (λ (r : ℕ → ℕ). map_action r a) (fun_ext designates-like)

  pub decl_of-like : (x : ℕ) → decl_of gs x ≡ decl_of fs x
  decl_of-like x =
      by-lookup (numbered fs (frame_number x)) (λ e. decl_of-none gs x (numbered-none (frame_number x) e) ∙ sym (decl_of-none fs x e))
      (λ f e. let q = numbered-like (frame_number x) f e in
      decl_of-found gs x q.0 q.1 ∙ ap₂ (λ b fs. get_elem? (block_decls b) (place x - length fs)) q.2.text q.2.formals ∙ sym (decl_of-found fs x f e))

  pub kind_of-like : (x : ℕ) → kind_of gs x ≡ kind_of fs x
  kind_of-like x =
      by-lookup (decl_of fs x) (λ e. kind_of-none gs x (decl_of-like x ∙ e) ∙ sym (kind_of-none fs x e)) (λ d e. kind_of-found gs x d (decl_of-like x ∙ e) ∙ sym (kind_of-found fs x d e))
