-- The values of parts, in sequence.
use Rattle.std.proofs.Common.{◌≡◌, ℕ, zero, suc, ◌+◌, ◌<◌, ◌≤◌, not, Bool, true, false, List, [], ◌∷◌, ◌++◌, Option, Some, None, length, drop, map, get_or, slice_get, Bor, refl, ap, sym, ◌∙◌, arith, append_assoc, append-nil}
use Rattle.std.specs.List.{list_all, slice_split}
use Rattle.std.specs.Option.{option_map}
use Rattle.gs_linktext_grammar.specs.Answers.{IsSyntax}
use Rattle.gs_linktext_grammar.specs.declared.error.LinkTextFault.{LinkTextFault}
use Rattle.gs_linktext_grammar.specs.Grammar.{is_comma, is_some_part, param_of, params_of, written_link, written_links, IsDocument}
use Rattle.gs_linktext_grammar.specs.Lexemes.{Lexed}
use Rattle.gs_linktext_grammar.specs.Pieces.{given, IsPiece, IsSoFar, prepended, with_part}
use Rattle.gs_linktext_grammar.specs.declared.lexeme.Lexeme.{Lexeme}
use Rattle.gs_linktext_grammar.specs.declared.lexeme.Lexeme.TheVariants.{Comma}
use Rattle.gs_linktext_grammar.specs.declared.written_link.Param.{Param}
use Rattle.gs_linktext_grammar.specs.declared.written_link.WrittenLink.{WrittenLink}
use Rattle.gs_chars.proofs.TruthsAndLists.{and_first, and_second}
use Rattle.gs_linktext_grammar.proofs.ChainLemmas.{chain_append, one_lexing, rest_lexed, syntax_more, whole_lexed}
use Rattle.gs_linktext_grammar.proofs.LexLemmas.{not_some, some_is}
use Rattle.std.proofs.lemmas.Bool.{not-true}

pub drop_at : {X : Type 0} (xs : List X) (k : ℕ) (x : X) → slice_get xs k ≡ Some x → drop k xs ≡ x ∷ drop (k + 1) xs
drop_at {X = X} xs k x h = let next : k + 1 ≡ suc k = omega arith in rw next (by xs k h)
  where
    by : (ys : List X) (i : ℕ) → slice_get ys i ≡ Some x → drop i ys ≡ x ∷ drop (suc i) ys
    by [] i h = absurd (not_some x h)
    by (y ∷ ys) zero h = rw (some_is y x h) refl
    by (y ∷ ys) (suc i) h = by ys i h

pub drop_all : {X : Type 0} (xs : List X) (k : ℕ) → length xs ≤ k → drop k xs ≡ []
drop_all [] zero h = refl
drop_all [] (suc k) h = refl
drop_all (x ∷ xs) zero h = absurd (omega (arith, h))
drop_all (x ∷ xs) (suc k) h = drop_all xs k (omega (arith, h))

pub borrowed_at : {X : Type 0} (values : List (Bor X)) (i : ℕ) (value : Bor X) → i < length values → value ≡ get_or values i value
    → slice_get (map (λ part. part.now) values) i ≡ Some value.now
borrowed_at {X = X} values i value low here = by values i low ∙ ap (λ v. Some v.now) (sym here)
  where
    by : (vs : List (Bor X)) (k : ℕ) → k < length vs → slice_get (map (λ part. part.now) vs) k ≡ Some (get_or vs k value).now
    by [] k h = absurd (omega (arith, h))
    by (v ∷ vs) zero h = refl
    by (v ∷ vs) (suc k) h = by vs k (omega (arith, h))

pub length_borrowed : {X : Type 0} (values : List (Bor X)) → length (map (λ part. part.now) values) ≡ length values
length_borrowed [] = refl
length_borrowed (v ∷ vs) = ap suc (length_borrowed vs)

module _ {X Y : Type 0} (f : List X → Option Y) where
  pub prepended_nothing : (o : Option (List Y)) → prepended [] o ≡ o
  prepended_nothing None = refl
  prepended_nothing (Some ys) = refl

  prepended_more : (ps : List Y) (y : Y) (o : Option (List Y)) → prepended ps (option_map (λ ys. y ∷ ys) o) ≡ prepended (ps ++ y ∷ []) o
  prepended_more ps y None = refl
  prepended_more ps y (Some ys) = ap Some (sym (append_assoc ps (y ∷ []) ys))

  part_by : (part : List X) (parts : List (List X)) (ps qs : List Y) (o : Option Y) → f part ≡ o → is_some_part part ≡ true
      → option_map (λ y. ps ++ y ∷ []) o ≡ Some qs → prepended ps (given f (part ∷ parts)) ≡ prepended qs (given f parts)
  part_by part parts ps qs None e own h = absurd (not_some qs h)
  part_by part parts ps qs (Some y) e own h = rw (own, e, ← some_is (ps ++ y ∷ []) qs h) (prepended_more ps y (given f parts))

  pub part_more : (part : List X) (parts : List (List X)) (ps qs : List Y) → with_part f part ps ≡ Some qs
      → prepended ps (given f (part ∷ parts)) ≡ prepended qs (given f parts)
  part_more part parts ps qs h = by (is_some_part part) refl
    where
      by : (b : Bool) → is_some_part part ≡ b → prepended ps (given f (part ∷ parts)) ≡ prepended qs (given f parts)
      by true e = part_by part parts ps qs (f part) refl e (rw e at h)
      by false e = let same : ps ≡ qs = some_is ps qs (rw e at h) in rw (e, same) refl

  stop_by : (part : List X) (parts : List (List X)) (ps : List Y) (o : Option Y) → f part ≡ o → is_some_part part ≡ true
      → option_map (λ y. ps ++ y ∷ []) o ≡ None → given f (part ∷ parts) ≡ None
  stop_by part parts ps None e own h = rw (own, e) refl
  stop_by part parts ps (Some y) e own h = absurd (not_some (ps ++ y ∷ []) (sym h))

  pub part_stops : (part : List X) (parts : List (List X)) (ps : List Y) → with_part f part ps ≡ None → given f (part ∷ parts) ≡ None
  part_stops part parts ps h = by (is_some_part part) refl
    where
      by : (b : Bool) → is_some_part part ≡ b → given f (part ∷ parts) ≡ None
      by true e = stop_by part parts ps (f part) refl e (rw e at h)
      by false e = absurd (not_some ps (sym (rw e at h)))

  pub parts_step : (parts : List (List X)) (k : ℕ) (part : List X) (whole : Option (List Y)) (ps qs : List Y)
      → slice_get parts k ≡ Some part → whole ≡ prepended ps (given f (drop k parts)) → with_part f part ps ≡ Some qs
      → whole ≡ prepended qs (given f (drop (k + 1) parts))
  parts_step parts k part whole ps qs at h own = h ∙ ap (λ xs. prepended ps (given f xs)) (drop_at parts k part at) ∙ part_more part
      (drop (k + 1) parts) ps qs own

  pub parts_stop : (parts : List (List X)) (k : ℕ) (part : List X) (whole : Option (List Y)) (ps : List Y) → slice_get parts k ≡ Some part
      → whole ≡ prepended ps (given f (drop k parts)) → with_part f part ps ≡ None → whole ≡ None
  parts_stop parts k part whole ps at h own = h ∙ ap (λ xs. prepended ps (given f xs)) (drop_at parts k part at) ∙ ap (prepended ps)
      (part_stops part (drop (k + 1) parts) ps own)

  pub parts_end : (parts : List (List X)) (k : ℕ) (whole : Option (List Y)) (ps : List Y) → length parts ≤ k
      → whole ≡ prepended ps (given f (drop k parts)) → whole ≡ Some ps
  parts_end parts k whole ps all h = h ∙ ap (λ xs. prepended ps (given f xs)) (drop_all parts k all) ∙ ap Some (append-nil ps)

-- ---- the parts between signs

pub split_none : {X : Type 0} (test : X → Bool) (p : List X) → list_all (λ x. not (test x)) p ≡ true → slice_split test p ≡ p ∷ []
split_none test [] h = refl
split_none test (x ∷ p) h =
    let f = not-true (test x) (and_first (not (test x)) (list_all (λ y. not (test y)) p) h) in
    rw (f, split_none test p (and_second (not (test x)) (list_all (λ y. not (test y)) p) h)) refl

pub split_at : {X : Type 0} (test : X → Bool) (p : List X) (sign : X) (ys : List X) → list_all (λ x. not (test x)) p ≡ true
    → test sign ≡ true → slice_split test (p ++ sign ∷ ys) ≡ p ∷ slice_split test ys
split_at test [] sign ys h own = rw own refl
split_at test (x ∷ p) sign ys h own =
    let f = not-true (test x) (and_first (not (test x)) (list_all (λ y. not (test y)) p) h) in
    rw (f, split_at test p sign ys (and_second (not (test x)) (list_all (λ y. not (test y)) p) h) own) refl

-- ---- the links of a text, piece by piece

pub so_far_more : (text rest behind : List ℕ) (links new : List WrittenLink) (piece : List Lexeme) → IsSoFar text rest links
    → IsPiece rest piece (Some behind) → with_part written_link piece links ≡ Some new → IsSoFar text behind new
so_far_more text rest behind links new piece (done, chain, all) (none, own) h =
    (done ++ (piece ++ Comma ∷ []), chain_append done (piece ++ Comma ∷ []) text rest behind chain own, by)
  where
    by : (others : List Lexeme) → written_links ((done ++ (piece ++ Comma ∷ [])) ++ others) ≡ prepended new (written_links others)
    by others =
        let one : (done ++ (piece ++ Comma ∷ [])) ++ others ≡ done ++ (piece ++ Comma ∷ others) = append_assoc done (piece ++ Comma ∷ []) others ∙ ap (λ (xs : List Lexeme). done ++ xs) (append_assoc piece (Comma ∷ []) others) in
        ap written_links one ∙ all (piece ++ Comma ∷ others) ∙ ap (λ xs. prepended links (given written_link xs))
        (split_at is_comma piece Comma others none refl) ∙ part_more written_link piece (slice_split is_comma others) links new h

pub so_far_ends : (text rest : List ℕ) (links new : List WrittenLink) (piece : List Lexeme) → IsSoFar text rest links
    → IsPiece rest piece None → with_part written_link piece links ≡ Some new → IsDocument text new
so_far_ends text rest links new piece (done, chain, all) (none, own) h = (
  done ++ piece,
  whole_lexed done piece text rest chain own,
  all piece ∙ ap (λ xs. prepended links (given written_link xs))
      (split_none is_comma piece none) ∙ part_more written_link piece [] links new h ∙ ap Some (append-nil new),
)

-- a document's lexemes go on with those of the rest
rest_of : (text rest : List ℕ) (links found : List WrittenLink) → IsSoFar text rest links → IsDocument text found
    → (ys : List Lexeme) × Lexed ys rest × (prepended links (written_links ys) ≡ Some found)
rest_of text rest links found (done, chain, all) (xs, lexed, is) =
    let behind = rest_lexed done xs text rest chain lexed in
    (behind.0, behind.2, sym (all behind.0) ∙ ap written_links (sym behind.1) ∙ is)

pub no_piece : (text rest : List ℕ) (links : List WrittenLink) (error : LinkTextFault) → IsSoFar text rest links
    → IsSyntax ((xs : List Lexeme) → Lexed xs rest → ⊥) error → IsSyntax ((found : List WrittenLink) → IsDocument text found → ⊥) error
no_piece text rest links error so_far h =
    syntax_more ((xs : List Lexeme) → Lexed xs rest → ⊥) ((found : List WrittenLink) → IsDocument text found → ⊥) error
    (λ none found own. let r = rest_of text rest links found so_far own in none r.0 r.1) h

no_given : (piece ys : List Lexeme) (text : List ℕ) (behind : Option (List ℕ)) → IsPiece text piece behind → Lexed ys text
    → ((parts : List (List Lexeme)) → given written_link (piece ∷ parts) ≡ None) → written_links ys ≡ None
no_given piece ys text None (none, own) lexed h =
    let same = one_lexing ys piece text lexed own in
    ap written_links same ∙ ap (given written_link) (split_none is_comma piece none) ∙ h []
no_given piece ys text (Some behind) (none, own) lexed h =
    let r = rest_lexed (piece ++ Comma ∷ []) ys text behind own lexed in
    ap written_links (r.1 ∙ append_assoc piece (Comma ∷ []) r.0) ∙ ap (given written_link) (split_at is_comma piece Comma r.0 none refl) ∙ h
    (slice_split is_comma r.0)

pub no_link : (text rest : List ℕ) (links : List WrittenLink) (piece : List Lexeme) (behind : Option (List ℕ)) (error : LinkTextFault)
    → IsSoFar text rest links → IsPiece rest piece behind → IsSyntax (with_part written_link piece links ≡ None) error
    → IsSyntax ((found : List WrittenLink) → IsDocument text found → ⊥) error
no_link text rest links piece behind error so_far own h =
    syntax_more (with_part written_link piece links ≡ None) ((found : List WrittenLink) → IsDocument text found → ⊥) error by h
  where
    by : with_part written_link piece links ≡ None → (found : List WrittenLink) → IsDocument text found → ⊥
    by stop found document =
        let r = rest_of text rest links found so_far document in
        let none = no_given piece r.0 rest behind own r.1 (λ parts. part_stops written_link piece parts links stop) in
        not_some found (sym (ap (prepended links) none) ∙ r.2)

-- ---- the parameters of parts

pub no_params : (parts : List (List Lexeme)) (k : ℕ) (part : List Lexeme) (ps : List Param) (error : LinkTextFault)
    → slice_get parts k ≡ Some part → params_of parts ≡ prepended ps (params_of (drop k parts))
    → IsSyntax (with_part param_of part ps ≡ None) error → IsSyntax (params_of parts ≡ None) error
no_params parts k part ps error at h own =
    syntax_more (with_part param_of part ps ≡ None) (params_of parts ≡ None) error (λ stop. parts_stop param_of parts k part (params_of parts) ps at h stop) own
