-- The frame machine: the static-link model that the fast engines share. A frame holds the block as the script has it and no copied
-- text; a name is found along static links, and a declared instance is known by its designator alone.
use Rattle.std.specs.Prelude.{ℕ, zero, suc, pred, ◌+◌, ◌-◌, ◌*◌, ◌/◌, ◌%◌, true, false, List, [], ◌∷◌, ◌++◌, map, eqb, leb, ltb, ℤ, pos, negsuc, length, take, get_or, set}
use Rattle.std.proofs.Math.Option.{Option, none, some}
use Rattle.std.proofs.Math.ListN.{get_elem?}
use Rattle.std.specs.Int.Signed.{mag}
use Rattle.language.specs.Basics.{last?, but_last, eq_z}
use Rattle.language.specs.Text.{Kind, Formal, Action, CL, GO, IF, KN, AR, AD, RM, QY, Block, Decl, Stmt, BK, DO, block_at, block_decls, block_stmts, stmt_at, decl_kind, label_index, decl_formals, decl_body, formal_names, formal_kinds, declared_names}
use Rattle.language.specs.Scope.{agree}
use Rattle.language.specs.Check.{accepted, refused}
use Rattle.language.specs.Table.{Table, Effect, leaves, halts, Asked, gives, refuses, added, removed, queried}
use Rattle.language.specs.Groups.{relisted}
use Rattle.language.specs.Machine.{Limits, compute}
use Rattle.language.specs.Call.{Engine, Fed, Reply, limits_of, admission, turned_away, links_of, written}
use Rattle.language.specs.declared.Stop.{Stop}
use Rattle.language.specs.declared.Stop.TheVariants.{ResultTooLarge, NoActivationLeft, ArgumentsDiffer}
use Rattle.language.specs.declared.End.{End}
use Rattle.language.specs.declared.End.TheVariants.{Finished, Spent, Stopped}
use Rattle.language.specs.declared.Answer.{Answer}

-- A frame: the formals of the procedure whose body its block is (none for another block), the block, where it goes on, its static link
-- (the number of the frame that encloses its text, 0 for the program), and a word for each name, formals first. A variable's word is its
-- value, a formal's is the designator of the instance that it stands for, any other is 0.
pub record Frame : Type 0 where
  pub formals : List Formal
  pub text : Block
  pub next : ℕ
  pub link : ℕ
  pub words : List ℤ

-- The frames stand outermost first.
pub record Stack : Type 0 where
  pub frames : List Frame
  pub table : Table
  pub steps : ℕ

unfoldable pub with_frames : Stack → List Frame → Stack
with_frames s fs = record { frames = fs; table = s.table; steps = s.steps }

unfoldable pub table_changed : Stack → Table → Stack
table_changed s t = record { frames = s.frames; table = t; steps = s.steps }

unfoldable pub continue : Frame → ℕ → Frame
continue f n = record { formals = f.formals; text = f.text; next = n; link = f.link; words = f.words }

unfoldable pub rewritten : Frame → List ℤ → Frame
rewritten f ws = record { formals = f.formals; text = f.text; next = f.next; link = f.link; words = ws }

-- Finding a name

-- frames are numbered from 1
unfoldable pub numbered : {A : Type 0} → List A → ℕ → Option A
numbered l zero = none
numbered l (suc k) = get_elem? l k

unfoldable pub frame_names : Frame → List ℕ
frame_names f = formal_names f.formals ++ declared_names f.text

-- the position of a name in a list of names, where positions go on from i
unfoldable pub position_from : ℕ → ℕ → List ℕ → Option ℕ
position_from n i [] = none
position_from n i (x ∷ xs) = elim (eqb n x) [ true ↦ some i | false ↦ position_from n (suc i) xs ]

-- Where a name was found: frame, position from 1, and the links followed to it.
pub record NamePlace : Type 0 where
  pub number : ℕ
  pub position : ℕ
  pub followed : ℕ

-- the frame's own names, and then its link's; a chain has no more links than there are frames
unfoldable pub seek_from : ℕ → List Frame → ℕ → ℕ → ℕ → Option NamePlace
seek_from zero fs k n j = none
seek_from (suc m) fs k n j =
    elim (numbered fs k) [
      | none ↦ none
      | some f ↦ elim (position_from n 1 (frame_names f)) [
        | some p ↦ some (record { number = k; position = p; followed = j })
        | none ↦ seek_from m fs f.link n (suc j)
      ]
    ]

unfoldable pub seek_name : List Frame → ℕ → Option NamePlace
seek_name fs n = seek_from (length fs) fs (length fs) n 0

-- a formal's word, read as the designator that it is
unfoldable pub designator_in : ℤ → ℕ
designator_in (pos n) = n
designator_in (negsuc n) = 0

unfoldable pub finally : List Frame → NamePlace → ℕ
finally fs p =
    elim (numbered fs p.number) [
      | none ↦ 0
      | some f ↦ elim (leb p.position (length f.formals)) [
        | true ↦ designator_in (get_or f.words (pred p.position) (pos 0))
        | false ↦ p.number * 64 + p.position
      ]
    ]

-- the instance that a name leads to from the innermost frame, by its designator; 0 where the name is not found
unfoldable pub designates : List Frame → ℕ → ℕ
designates fs n = elim (seek_name fs n) [ none ↦ 0 | some p ↦ finally fs p ]

unfoldable pub links_followed : List Frame → ℕ → ℕ
links_followed fs n = elim (seek_name fs n) [ none ↦ 0 | some p ↦ p.followed ]

-- Declared instances by designator, 64 numbers to a frame

unfoldable pub frame_number : ℕ → ℕ
frame_number x = x / 64

unfoldable pub place : ℕ → ℕ
place x = pred (x % 64)

unfoldable pub decl_of : List Frame → ℕ → Option Decl
decl_of fs x = elim (numbered fs (frame_number x)) [ none ↦ none | some f ↦ get_elem? (block_decls f.text) (place x - length f.formals) ]

unfoldable pub kind_of : List Frame → ℕ → Option Kind
kind_of fs x = elim (decl_of fs x) [ none ↦ none | some d ↦ some (decl_kind d) ]

unfoldable pub word_at : List Frame → ℕ → ℤ
word_at fs x = elim (numbered fs (frame_number x)) [ none ↦ pos 0 | some f ↦ get_or f.words (place x) (pos 0) ]

unfoldable pub put_word : List Frame → ℕ → ℤ → List Frame
put_word fs x z =
    elim (numbered fs (frame_number x)) [ none ↦ fs | some f ↦ set fs (pred (frame_number x)) (rewritten f (set f.words (place x) z)) ]

-- One step

-- a statement's action with the designator of each name in the name's place
unfoldable pub map_action : (ℕ → ℕ) → Action → Action
map_action r (CL p xs) = CL (r p) (map r xs)
map_action r (GO l) = GO (r l)
map_action r (IF v l) = IF (r v) (r l)
map_action r (KN t z) = KN (r t) z
map_action r (AR t o a b) = AR (r t) o (r a) (r b)
map_action r (AD g m) = AD (r g) (r m)
map_action r (RM g m) = RM (r g) (r m)
map_action r (QY t g m) = QY (r t) (r g) (r m)

pub data Acted : Type 0 where
  acted : Stack → Acted
  halted : Stop → Acted

unfoldable pub zero_words : List Decl → List ℤ
zero_words ds = map (λ (d : Decl). pos 0) ds

-- a new frame: the arguments' designators are the formals' words
unfoldable pub new_frame : List Formal → List ℕ → Block → ℕ → Frame
new_frame formals xs b link =
    record { formals = formals; text = b; next = 1; link = link; words = map pos xs ++ zero_words (block_decls b) }

unfoldable pub push_frame : Limits → Stack → List Formal → List ℕ → Block → ℕ → Acted
push_frame l s formals xs b link =
    elim (ltb (length s.frames) l.activations) [
      | true ↦ acted (with_frames s (s.frames ++ (new_frame formals xs b link ∷ [])))
      | false ↦ halted NoActivationLeft
    ]

-- a body is linked to the frame that declared the procedure, wherever the call came from
unfoldable pub call_by : Limits → Stack → ℕ → List ℕ → Acted
call_by l s p xs =
    elim (decl_of s.frames p) [
      | none ↦ acted s
      | some d ↦ elim (agree (formal_kinds (decl_formals d)) (map (kind_of s.frames) xs)) [
        | true ↦ push_frame l s (decl_formals d) xs (decl_body d) (frame_number p)
        | false ↦ halted ArgumentsDiffer
      ]
    ]

-- a goto takes the frames up to the label's
unfoldable pub go_to : Stack → ℕ → Stack
go_to s x =
    elim (numbered s.frames (frame_number x)) [
      | none ↦ s
      | some f ↦ elim (decl_of s.frames x) [
        | none ↦ s
        | some d ↦ with_frames s (take (pred (frame_number x)) s.frames ++ (continue f (label_index d) ∷ []))
      ]
    ]

unfoldable pub put : Stack → ℕ → ℤ → Stack
put s x z = with_frames s (put_word s.frames x z)

unfoldable pub put_if_fits : Stack → ℕ → ℤ → Acted
put_if_fits s x z = elim (ltb (mag z) 2147483648) [ true ↦ acted (put s x z) | false ↦ halted ResultTooLarge ]

-- AD, RM and QY do to the table what they do in the copy-rule machine
unfoldable pub as_acted : Stack → Effect → Acted
as_acted s (leaves t) = acted (table_changed s t)
as_acted s (halts c) = halted c

unfoldable pub as_put : Stack → ℕ → Asked → Acted
as_put s x (gives z) = acted (put s x z)
as_put s x (refuses c) = halted c

unfoldable pub add_to : Limits → Stack → ℤ → ℤ → Acted
add_to l s g m = as_acted s (added l.limit g m s.table)

unfoldable pub remove_from : Stack → ℤ → ℤ → Acted
remove_from s g m = as_acted s (removed g m s.table)

unfoldable pub ask : Stack → ℕ → ℤ → ℤ → Acted
ask s x g m = as_put s x (queried g m s.table)

-- an action once its names are found
unfoldable pub act : Limits → Stack → Action → Acted
act l s (CL p xs) = call_by l s p xs
act l s (GO x) = acted (go_to s x)
act l s (IF v x) = elim (eq_z (word_at s.frames v) (pos 0)) [ true ↦ acted s | false ↦ acted (go_to s x) ]
act l s (KN t z) = acted (put s t z)
act l s (AR t o a b) = put_if_fits s t (compute o (word_at s.frames a) (word_at s.frames b))
act l s (AD g m) = add_to l s (word_at s.frames g) (word_at s.frames m)
act l s (RM g m) = remove_from s (word_at s.frames g) (word_at s.frames m)
act l s (QY t g m) = ask s t (word_at s.frames g) (word_at s.frames m)

-- entering a block links to the innermost frame
unfoldable pub act_stmt : Limits → Stack → Stmt → Acted
act_stmt l s (BK b) = push_frame l s [] [] b (length s.frames)
act_stmt l s (DO at a) = act l s (map_action (designates s.frames) a)

unfoldable pub frame_stmt : Frame → Option Stmt
frame_stmt f = get_elem? (block_stmts f.text) (pred f.next)

unfoldable pub advance_frame : Stack → Frame → Stack
advance_frame s f = with_frames s (but_last s.frames ++ (continue f (suc f.next) ∷ []))

unfoldable pub act_in : Limits → Stack → Frame → Acted
act_in l s f = elim (frame_stmt f) [ none ↦ acted (with_frames s (but_last s.frames)) | some x ↦ act_stmt l (advance_frame s f) x ]

unfoldable pub frame_step : Limits → Stack → Acted
frame_step l s = elim (last? s.frames) [ none ↦ acted s | some f ↦ act_in l s f ]

-- what the step from s to s' costs, and s' with that step counted
unfoldable pub frame_cost : Stack → Stack → ℕ
frame_cost s s' = 1

unfoldable pub stepped : Stack → Stack → Stack
stepped s s' = record { frames = s'.frames; table = s'.table; steps = s'.steps + frame_cost s s' }

unfoldable pub frame_offset : Stack → ℕ
frame_offset s = elim (last? s.frames) [ none ↦ 0 | some f ↦ elim (frame_stmt f) [ none ↦ 0 | some x ↦ stmt_at x ] ]

-- The run

pub record Result : Type 0 where
  pub end : End
  pub offset : ℕ
  pub final : Stack

unfoldable pub results : End → ℕ → Stack → Result
results e o s = record { end = e; offset = o; final = s }

-- as the copy-rule machine's
unfoldable pub frame_run_within : ℕ → Limits → ℕ → Stack → Result
frame_run_within zero l left s = results Spent 0 s
frame_run_within (suc bound) l left s =
    elim s.frames [
      | [] ↦ results Finished 0 s
      | f ∷ rest ↦ elim left [
        | zero ↦ results Spent 0 s
        | suc n ↦ elim (frame_step l s) [
          | halted c ↦ results (Stopped c) (frame_offset s) s
          | acted s' ↦ elim (leb (frame_cost s s') (suc n)) [
            | true ↦ frame_run_within bound l (suc n - frame_cost s s') (stepped s s')
            | false ↦ results Spent 0 s
          ]
        ]
      ]
    ]

unfoldable pub frame_run : Limits → ℕ → Stack → Result
frame_run l n s = frame_run_within (suc n) l n s

unfoldable pub frame_start : Block → Table → Stack
frame_start program t = record { frames = new_frame [] [] program 0 ∷ []; table = t; steps = 0 }

-- The sheet is read off the frames.
unfoldable pub frame_words : Frame → List ℤ
frame_words f = pos (block_at f.text) ∷ pos f.next ∷ pos f.link ∷ f.words

unfoldable pub frame_sheet : List Frame → List ℤ
frame_sheet [] = []
frame_sheet (f ∷ fs) = frame_words f ++ frame_sheet fs

unfoldable pub frame_replied : Engine → Fed → Result → Reply
frame_replied e f r =
    let s = r.final in let ws = frame_sheet s.frames in
    record { answer = record { end = r.end; steps = s.steps; offset = r.offset; pairs = s.table.used; sheet = length ws; tally = f.tally + s.steps; designator = designates s.frames f.name; links = links_of e (links_followed s.frames f.name) }; lent = record { sheet = written ws f.lent.sheet; table = s.table; groups = relisted s.table f.lent.groups } }

unfoldable pub frame_run_of : Fed → Block → Result
frame_run_of f t = frame_run (limits_of f) f.allowance (frame_start t f.lent.table)

-- The whole call, run on frames.
unfoldable pub frame_reply : Engine → Fed → Reply
frame_reply e f = elim (admission e f) [ refused c o ↦ turned_away f c o | accepted t ↦ frame_replied e f (frame_run_of f t) ]
