-- The shapes of words fit: what is read goes with the files that are named, and numbers and weights
-- are accepted ones.
use Rattle.std.proofs.Common.{◌≡◌, ◌⊎◌, inl, inr, ℕ, ◌<◌, ◌≤◌, ◌&&◌, nat_le, List, [], ◌∷◌, Bool, true, false, Bor, Option, Some, None, IfSome, if◌then◌else◌, ap, ◌∙◌, sym, subst, refl, leb-true}
use Rattle.std.specs.Prelude.{codes}
use Rattle.std.specs.Option.{option_map}
use Rattle.std.specs.Str.{bytes_eq}
use Rattle.std.specs.Str.Parse.{digits_value}
use Rattle.std.proofs.lemmas.Bool.{and_parts}
use Rattle.commands.specs.Paths.{writes_log}
use Rattle.commands.specs.Numbers.{number_of, is_word_of}
use Rattle.commands.specs.Seen.{files_seen, shape_seen, task_seen}
use Rattle.commands.specs.Shapes.{columns_log_shape, columns_shape, log_shape, number_shape, second_shape, shape_of, weights_shape}
use Rattle.commands.specs.Tasks.{Shape, Task, shape}
use Rattle.commands.specs.Tasks.Files.{none, one, two, logged}
use Rattle.commands.specs.Tasks.Task.{check, relog, solve, dual, sample, project, associate, meet, sum, join, map, weights, weigh, vertices, facets, reconv}
use Rattle.commands.specs.Weights.{are_weights}
use Rattle.commands.specs.declared.command.Command.{Command}
use Rattle.commands.specs.declared.command.Files.{Files as Named}
use Rattle.commands.specs.declared.command.Files.TheVariants as named
use Rattle.bensolve_main.specs.Stages.{FilesFit, ReadsOne, ShapeFits, TaskFits}
use Rattle.bensolve_main.specs.Tasks.{Texts, texts_of}
use Rattle.bensolve_main.specs.Tasks.Texts.{nothing, problem, problem_and_log, two_problems, representation, representation_and_log}

record Fits (o : Option Shape) : Type 0 where
  fits : IfSome o ShapeFits

-- ---- the parts of a shape's definition
-- of a word that passes a test
tested : (b : Bool) (s : Shape) → (b ≡ true → ShapeFits s) → Fits (if b then Some s else None)
tested true s h = record { fits = h refl }
tested false s h = record { fits = tt }

-- of two words that differ
differing : (b : Bool) (s : Option Shape) → Fits s → Fits (if b then None else s)
differing true s h = record { fits = tt }
differing false s h = h

-- of a number
of_number : (b : Bool) (n : ℕ) (f : ℕ → Shape) → (b ≡ true → ShapeFits (f n)) → Fits (option_map f (if b then Some n else None))
of_number true n f h = record { fits = h refl }
of_number false n f h = record { fits = tt }

within : (n most : ℕ) (same : Bool) → (same && (nat_le 1 n && nat_le n most)) ≡ true → (0 < n) × (n ≤ most)
within n most same h =
    let parts = and_parts (nat_le 1 n) (nat_le n most) (and_parts same (nat_le 1 n && nat_le n most) h).1 in
    (leb-true 1 n parts.0, leb-true n most parts.1)

numbered : (most : ℕ) (word : List ℕ) (f : ℕ → Shape) → ((n : ℕ) → (0 < n) × (n ≤ most) → ShapeFits (f n)) → Fits (option_map f (number_of most word))
numbered most word f fits =
    let n = digits_value 10 word in
    of_number (is_word_of most word n) n f (λ is. fits n (within n most _ is))

-- ---- by the number of words
unread : Fits None
unread = record { fits = tt }

plain : (s : Shape) → FilesFit (texts_of s.task) s.files → TaskFits s.task → Fits (Some s)
plain s files task = record { fits = record { files = files; task = task } }

seconds : (t : Task) (f o : List ℕ) → FilesFit (texts_of t) (two f o) → TaskFits t → Fits (second_shape t f o)
seconds t f o files task = differing (bytes_eq f o) (Some (shape t (two f o))) (plain (shape t (two f o)) files task)

logs : (t : Task) (f o : List ℕ) → FilesFit (texts_of t) (logged f o) → TaskFits t → Fits (log_shape t f o)
logs t f o files task = differing (bytes_eq f o) (Some (shape t (logged f o))) (plain (shape t (logged f o)) files task)

four_shapes : (a b c d : Bool) (s1 s2 s3 s4 rest : Option Shape) → Fits s1 → Fits s2 → Fits s3 → Fits s4 → Fits rest →
    Fits (if a then s1 else if b then s2 else if c then s3 else if d then s4 else rest)
four_shapes true b c d s1 s2 s3 s4 rest h1 h2 h3 h4 h5 = h1
four_shapes false true c d s1 s2 s3 s4 rest h1 h2 h3 h4 h5 = h2
four_shapes false false true d s1 s2 s3 s4 rest h1 h2 h3 h4 h5 = h3
four_shapes false false false true s1 s2 s3 s4 rest h1 h2 h3 h4 h5 = h4
four_shapes false false false false s1 s2 s3 s4 rest h1 h2 h3 h4 h5 = h5

one_more : (b : Bool) (s rest : Option Shape) → Fits s → Fits rest → Fits (if b then s else rest)
one_more true s rest h more = h
one_more false s rest h more = more

one_only : (b : Bool) (s : Option Shape) → Fits s → Fits (if b then s else None)
one_only true s h = h
one_only false s h = unread

-- ---- all words
fits_of : (words : List (List ℕ)) → Fits (shape_of words)
fits_of [] = unread
fits_of (w ∷ []) = unread
fits_of (w ∷ f ∷ []) =
    one_more (bytes_eq w (codes "solve")) (Some (shape solve (one f))) _ (plain (shape solve (one f)) tt tt)
    (four_shapes (bytes_eq w (codes "dual")) (bytes_eq w (codes "map")) (bytes_eq w (codes "weights")) (bytes_eq w (codes "vertices"))
    (Some (shape dual (one f))) (Some (shape map (one f))) (Some (shape weights (one f))) (Some (shape vertices (one f)))
    (if bytes_eq w (codes "facets") then Some (shape facets (one f))
    else if bytes_eq w (codes "sample") then number_shape f
    else None)
    (plain (shape dual (one f)) tt tt) (plain (shape map (one f)) tt tt) (plain (shape weights (one f)) tt tt) (plain (shape vertices (one f)) tt tt)
    (one_more (bytes_eq w (codes "facets")) (Some (shape facets (one f))) _ (plain (shape facets (one f)) tt tt)
    (one_only (bytes_eq w (codes "sample")) (number_shape f)
    (numbered 1000 f (λ n. shape (sample n) none) (λ n h. record { files = tt; task = tt })))))
fits_of (w ∷ f ∷ o ∷ []) =
    one_more (bytes_eq w (codes "check")) (second_shape check f o) _ (seconds check f o tt tt)
    (four_shapes (bytes_eq w (codes "relog")) (bytes_eq w (codes "meet")) (bytes_eq w (codes "sum")) (bytes_eq w (codes "join"))
    (second_shape relog f o) (second_shape meet f o) (second_shape sum f o) (second_shape join f o)
    (if bytes_eq w (codes "reconv") then second_shape reconv f o
    else if bytes_eq w (codes "solve") then log_shape solve f o
    else if bytes_eq w (codes "dual") then log_shape dual f o
    else if bytes_eq w (codes "vertices") then log_shape vertices f o
    else if bytes_eq w (codes "facets") then log_shape facets f o
    else if bytes_eq w (codes "project") then columns_shape project f o
    else if bytes_eq w (codes "associate") then columns_shape associate f o
    else if bytes_eq w (codes "weigh") then weights_shape f o
    else None)
    (seconds relog f o tt tt) (seconds meet f o tt tt) (seconds sum f o tt tt) (seconds join f o tt tt)
    (one_more (bytes_eq w (codes "reconv")) (second_shape reconv f o) _ (seconds reconv f o tt tt)
    (four_shapes (bytes_eq w (codes "solve")) (bytes_eq w (codes "dual")) (bytes_eq w (codes "vertices")) (bytes_eq w (codes "facets"))
    (log_shape solve f o) (log_shape dual f o) (log_shape vertices f o) (log_shape facets f o)
    (if bytes_eq w (codes "project") then columns_shape project f o
    else if bytes_eq w (codes "associate") then columns_shape associate f o
    else if bytes_eq w (codes "weigh") then weights_shape f o
    else None)
    (logs solve f o tt tt) (logs dual f o tt tt) (logs vertices f o tt tt) (logs facets f o tt tt)
    (one_more (bytes_eq w (codes "project")) (columns_shape project f o) _
    (numbered 19 o (λ k. shape (project k) (one f)) (λ k h. record { files = tt; task = h }))
    (one_more (bytes_eq w (codes "associate")) (columns_shape associate f o) _
    (numbered 19 o (λ k. shape (associate k) (one f)) (λ k h. record { files = tt; task = h }))
    (one_only (bytes_eq w (codes "weigh")) (weights_shape f o)
    (tested (are_weights o) (shape (weigh o) (one f)) (λ is. record { files = tt; task = is }))))))))
fits_of (w ∷ f ∷ c ∷ l ∷ []) =
    one_only (bytes_eq w (codes "project")) (columns_log_shape project f c l)
    (differing (bytes_eq f l) (option_map (λ k. shape (project k) (logged f l)) (number_of 19 c))
    (numbered 19 c (λ k. shape (project k) (logged f l)) (λ k h. record { files = tt; task = h })))
fits_of (v ∷ w ∷ f ∷ c ∷ l ∷ r) = unread

pub shape_fits : (words : List (List ℕ)) → IfSome (shape_of words) ShapeFits
shape_fits words = (fits_of words).fits

-- ---- the command of words
-- words with a shape have the shape of their command
pub seen : (o : Option Command) (k : Command) (s : Option Shape) → option_map shape_seen o ≡ s → o ≡ Some k → Some (shape_seen k) ≡ s
seen o k s shaped is = sym (ap (λ (x : Option Command). option_map shape_seen x) is) ∙ shaped

pub command_fits : (o : Option Command) (k : Command) (words : List (List ℕ)) → option_map shape_seen o ≡ shape_of words → o ≡ Some k → ShapeFits (shape_seen k)
command_fits o k words shaped is = subst (λ (x : Option Shape). IfSome x ShapeFits) (sym (seen o k (shape_of words) shaped is)) (shape_fits words)

-- ---- what is read, by the files that are named
abbrev IsOne : Texts → Type 0
IsOne x = (x ≡ problem) ⊎ (x ≡ representation)

reads_one : (x : Texts) (p : List ℕ) → FilesFit x (one p) → IsOne x
reads_one nothing p h = absurd h
reads_one problem p h = inl refl
reads_one problem_and_log p h = absurd h
reads_one two_problems p h = absurd h
reads_one representation p h = inr refl
reads_one representation_and_log p h = absurd h

reads_logged : (x : Texts) (p l : List ℕ) → FilesFit x (logged p l) → IsOne x
reads_logged nothing p l h = absurd h
reads_logged problem p l h = inl refl
reads_logged problem_and_log p l h = absurd h
reads_logged two_problems p l h = absurd h
reads_logged representation p l h = inr refl
reads_logged representation_and_log p l h = absurd h

-- of a command of the code
pub problem_read : (k : Command) (p : Bor (List ℕ)) → ShapeFits (shape_seen k) → k.files ≡ named.Problem p → ReadsOne (task_seen k.task)
problem_read k p fits is =
    reads_one (texts_of (task_seen k.task)) p.now (subst (λ (f : Named). FilesFit (texts_of (task_seen k.task)) (files_seen f)) is fits.files)

pub logged_read : (k : Command) (p l : Bor (List ℕ)) → ShapeFits (shape_seen k) → k.files ≡ named.Log p l → ReadsOne (task_seen k.task)
logged_read k p l fits is =
    reads_logged (texts_of (task_seen k.task)) p.now l.now (subst (λ (f : Named). FilesFit (texts_of (task_seen k.task)) (files_seen f)) is fits.files)

-- whether a log is written
pub problem_logs : (k : Command) (p : Bor (List ℕ)) → k.files ≡ named.Problem p → writes_log (files_seen k.files) ≡ false
problem_logs k p is = ap (λ (f : Named). writes_log (files_seen f)) is

pub logged_logs : (k : Command) (p l : Bor (List ℕ)) → k.files ≡ named.Log p l → writes_log (files_seen k.files) ≡ true
logged_logs k p l is = ap (λ (f : Named). writes_log (files_seen f)) is
