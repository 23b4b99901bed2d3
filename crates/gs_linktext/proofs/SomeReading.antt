-- A text has an answer of reading: the contexts of a linkset, or an error that is not out of memory.
use Rattle.std.proofs.Common.{◌≡◌, ℕ, zero, suc, ◌+◌, ◌<◌, not, Bool, true, false, List, [], ◌∷◌, ◌++◌, Option, Some, None, codes, length, map, bytes_eq, refl, sym, ap, ◌∙◌, inl, inr, arith, append_assoc, append-nil, subst, unwrap_or}
use Rattle.std.specs.Prelude.{◌⊎◌}
use Rattle.gs_linkset.specs.LinkShapes.{is_below}
use Rattle.gs_linkset.specs.declared.link_types.Context.{Context}
use Rattle.gs_linkset.specs.declared.link_types.Relation.{Relation}
use Rattle.gs_linkset.specs.declared.link_types.Target.{Target}
use Rattle.gs_chars.proofs.TruthsAndLists.{and_first, and_second, equal_bytes}
use Rattle.gs_linktext_grammar.specs.Grammar.{is_some_part, written_links, IsDocument}
use Rattle.gs_linktext_grammar.specs.Lexemes.{Lexed}
use Rattle.gs_linktext_grammar.specs.Prefixes.{after_blanks, first_lexeme}
use Rattle.gs_linktext_grammar.specs.declared.error.LinkTextFault.{LinkTextFault}
use Rattle.gs_linktext_grammar.specs.declared.error.LinkTextFault.TheVariants.{Syntax, Anchor, Rel, Memory}
use Rattle.gs_linktext_grammar.specs.declared.lexeme.Lexeme.{Lexeme}
use Rattle.gs_linktext_grammar.specs.declared.written_link.WrittenLink.{WrittenLink}
use Rattle.gs_linktext_grammar.specs.Bytes.{is_blank}
use Rattle.gs_linktext_grammar.proofs.ChainLemmas.{lexed_end, next_of_prefix, not_lexed, one_lexing, rest_lexed}
use Rattle.gs_linktext_grammar.proofs.LexLemmas.{not_some, shorter_behind, shorter_prefix, some_is}
use Rattle.gs_linktext.specs.Contexts.{last_name, IsCut}
use Rattle.gs_linktext.specs.Cuts.{context_with, relation_with, takes, IsMore}
use Rattle.gs_linktext.specs.Links.{first_error, first_value, is_rel_error, link_error, types_of, IsLinksOf, IsLinksOfLink}
use Rattle.gs_linktext.specs.ReadAnswers.{HasReading}
use Rattle.gs_linktext.proofs.CutLemmas.{cut_first, cut_more, cut_next, last_of, more_relation, more_target}
use Rattle.gs_linktext.proofs.SomeNames.{some_attributes}
use Rattle.gs_linktext.proofs.SpelledLexemes.{Link}

-- ---- lexemes

-- a text has lexemes, or none
abbrev IsLexedOrNot : List ℕ → Type 0
IsLexedOrNot text = ((xs : List Lexeme) × Lexed xs text) ⊎ ((xs : List Lexeme) → Lexed xs text → ⊥)

end_or_not : (text rest : List ℕ) → after_blanks text ≡ rest → first_lexeme (after_blanks text) ≡ None → IsLexedOrNot text
end_or_not text [] is none = inl ([], lexed_end [] text text refl is)
end_or_not text (c ∷ rest) is none = inr (λ xs lexed. not_lexed [] xs text text refl none (λ e. let f : c ∷ rest ≡ [] = sym is ∙ e in cc) lexed)

lexed_in : (n : ℕ) (text : List ℕ) → length text < n → IsLexedOrNot text
lexed_in zero text small = absurd (omega arith)
lexed_in (suc n) text small = by (lexed_in n) (first_lexeme (after_blanks text)) refl
  where
    by : ((rest : List ℕ) → length rest < n → IsLexedOrNot rest) → (o : Option (Lexeme × List ℕ)) → first_lexeme (after_blanks text) ≡ o → IsLexedOrNot text
    by more None e = end_or_not text (after_blanks text) refl e
    by more (Some (x, rest)) e =
        let less = shorter_prefix x (after_blanks text) rest e in
        let within = shorter_behind is_blank text in
        let next = next_of_prefix x text rest e in
        elim (more rest (omega arith)) [
          | inl found ↦ let l = found.1 in inl (x ∷ found.0, (l.0, (rest, next, l.1), l.2))
          | inr none ↦ inr (λ xs lexed. let r = rest_lexed (x ∷ []) xs text rest (rest, next, refl) lexed in none r.0 r.2)
        ]

lexed_or_not : (text : List ℕ) → IsLexedOrNot text
lexed_or_not text = lexed_in (suc (length text)) text (omega arith)

-- ---- documents

-- a text is a document, or it is not
abbrev IsDocumentOrNot : List ℕ → Type 0
IsDocumentOrNot text = ((links : List WrittenLink) × IsDocument text links) ⊎ ((links : List WrittenLink) → IsDocument text links → ⊥)

document_or_not : (text : List ℕ) → IsDocumentOrNot text
document_or_not text = elim (lexed_or_not text) [
  | inr none ↦ inr (λ links d. none d.0 d.1)
  | inl found ↦ by found.0 found.1 (written_links found.0) refl
]
  where
    by : (xs : List Lexeme) → Lexed xs text → (o : Option (List WrittenLink)) → written_links xs ≡ o → IsDocumentOrNot text
    by xs lexed (Some links) e = inl (links, (xs, lexed, e))
    by xs lexed None e = inr (λ links d. not_some links (sym e ∙ ap written_links (one_lexing xs d.0 text lexed d.1) ∙ d.2))

-- ---- errors

-- an error of a link is that it has no anchor, or no relation type that can be
abbrev IsOfLink : LinkTextFault → Type 0
IsOfLink Syntax = ⊥
IsOfLink (Anchor i) = Unit {0}
IsOfLink (Rel i) = Unit {0}
IsOfLink Memory = ⊥

link_is : (i : ℕ) (link : WrittenLink) (error : LinkTextFault) → link_error i link ≡ Some error → IsOfLink error
link_is i link error h = by (first_value (codes "anchor") link.params) refl (is_rel_error (types_of link.params)) refl
  where
    by : (o : Option (List ℕ)) → first_value (codes "anchor") link.params ≡ o → (b : Bool) → is_rel_error (types_of link.params) ≡ b → IsOfLink error
    by None e b f = let g : Some (Anchor i) ≡ Some error = rw e at h in subst IsOfLink (some_is (Anchor i) error g) tt
    by (Some anchor) e true f = let g : Some (Rel i) ≡ Some error = rw (e, f) at h in subst IsOfLink (some_is (Rel i) error g) tt
    by (Some anchor) e false f = absurd (not_some error (rw (e, f) at h))

first_is : (i : ℕ) (links : List WrittenLink) (error : LinkTextFault) → first_error i links ≡ Some error → IsOfLink error
first_is i [] error h = absurd (not_some error h)
first_is i (link ∷ links) error h = by (first_is (i + 1) links error) (link_error i link) refl
  where
    by : (first_error (i + 1) links ≡ Some error → IsOfLink error) → (o : Option LinkTextFault) → link_error i link ≡ o → IsOfLink error
    by more (Some own) e = link_is i link error (e ∙ (rw e at h))
    by more None e = more (rw e at h)

read_error : (bytes : List ℕ) (links : List WrittenLink) (error : LinkTextFault) → IsDocument bytes links → first_error 0 links ≡ Some error
    → IsOfLink error → HasReading bytes
read_error bytes links Syntax document is h = absurd h
read_error bytes links (Anchor i) document is h = inr (Anchor i, (λ e. let f : Anchor i ≡ Memory = e in cc), (links, document, is))
read_error bytes links (Rel i) document is h = inr (Rel i, (λ e. let f : Rel i ≡ Memory = e in cc), (links, document, is))
read_error bytes links Memory document is h = absurd h

-- ---- links

some_links : (written : List WrittenLink) → (links : List Link) × IsLinksOf written links
some_links [] = ([], refl)
some_links (link ∷ written) =
    let attrs = some_attributes link.params in
    let own = map (λ (type : List ℕ). let l : Link = (unwrap_or (first_value (codes "anchor") link.params) [], type, record { href = link.href; attrs = attrs.0 }) in l) (types_of link.params) in
    let more = some_links written in
    let of_link : IsLinksOfLink link own = record { attrs = attrs.0; attributes = attrs.1; is = refl } in
    (own ++ more.0, (own, more.0, of_link, more.1, refl))

-- ---- contexts

-- a list has a last item, or none
at_last : {X : Type 0} (xs : List X) → (xs ≡ []) ⊎ ((ys : List X) × (y : X) × (xs ≡ ys ++ y ∷ []))
at_last [] = inl refl
at_last (x ∷ xs) = elim (at_last xs) [
  | inl none ↦ inr ([], x, ap (λ zs. x ∷ zs) none)
  | inr found ↦ inr (x ∷ found.0, found.1, ap (λ zs. x ∷ zs) found.2)
]

-- a context with one link more
some_more : (c : Context) (name : List ℕ) (target : Target) → (d : Context) × IsMore c d name target
some_more c name target = elim (at_last c.relations) [
  | inl none ↦ (added, more_relation c added name target refl refl (λ some. absurd (no_part c.relations none some)))
  | inr found ↦ by found.0 found.1 found.2 (bytes_eq found.1.name name) refl
]
  where
    added : Context
    added = record { anchor = c.anchor; relations = c.relations ++ relation_with name target ∷ [] }

    no_part : (rs : List Relation) → rs ≡ [] → is_some_part rs ≡ true → ⊥
    no_part rs none some = let e : false ≡ true = rw none at some in cc

    by : (qs : List Relation) (r : Relation) → c.relations ≡ qs ++ r ∷ [] → (b : Bool) → bytes_eq r.name name ≡ b → (d : Context) × IsMore c d name target
    by qs r is true same =
        let s : Relation = record { name = r.name; targets = r.targets ++ target ∷ [] } in
        let d : Context = record { anchor = c.anchor; relations = qs ++ s ∷ [] } in
        (d, more_target c d name target qs r s refl is (equal_bytes r.name name same) refl refl refl)
    by qs r is false other =
        (added, more_relation c added name target refl refl (λ some. (ap (λ rs. bytes_eq (last_name rs) name) is ∙ ap (λ n. bytes_eq n name) (last_of qs r) ∙ other)))

-- a cut of links and one link more
cut_by : (links : List Link) (old : List Context) (anchor name : List ℕ) (target : Target) → IsCut links old
    → (new : List Context) × IsCut (links ++ (anchor, name, target) ∷ []) new
cut_by links old anchor name target cut = elim (at_last old) [
  | inl none ↦ (old ++ context_with anchor name target ∷ [], cut_first links old (old ++ context_with anchor name target ∷ []) anchor name target none refl cut)
  | inr found ↦ by found.0 found.1 found.2 (takes found.1 anchor name) refl
]
  where
    by : (cs : List Context) (c : Context) → old ≡ cs ++ c ∷ [] → (b : Bool) → takes c anchor name ≡ b
        → (new : List Context) × IsCut (links ++ (anchor, name, target) ∷ []) new
    by cs c is true t =
        let d = some_more c name target in (
          cs ++ d.0 ∷ [],
          cut_more links old (cs ++ d.0 ∷ []) cs c d.0 anchor name target is refl d.1
              (and_first (bytes_eq c.anchor anchor) (not (is_below name (last_name c.relations))) t)
              (and_second (bytes_eq c.anchor anchor) (not (is_below name (last_name c.relations))) t) cut,
        )
    by cs c is false t = (old ++ context_with anchor name target ∷ [], cut_next links old (old ++ context_with anchor name target ∷ []) cs c anchor name target is refl t cut)

cut_from : (done links : List Link) (old : List Context) → IsCut done old → (new : List Context) × IsCut (done ++ links) new
cut_from done [] old cut = (old, subst (λ ls. IsCut ls old) (sym (append-nil done)) cut)
cut_from done ((anchor, name, target) ∷ links) old cut =
    let one = cut_by done old anchor name target cut in
    let all = cut_from (done ++ (anchor, name, target) ∷ []) links one.0 one.1 in
    (all.0, subst (λ ls. IsCut ls all.0) (append_assoc done ((anchor, name, target) ∷ []) links) all.1)

some_cut : (links : List Link) → (contexts : List Context) × IsCut links contexts
some_cut links = cut_from [] links [] (record { same = refl; ascending = refl; full = refl; apart = refl })

-- ---- the answer

pub some_reading : (bytes : List ℕ) → HasReading bytes
some_reading bytes = elim (document_or_not bytes) [
  | inr none ↦ inr (Syntax, (λ e. let f : Syntax ≡ Memory = e in cc), none)
  | inl found ↦ by found.0 found.1 (first_error 0 found.0) refl
]
  where
    by : (written : List WrittenLink) → IsDocument bytes written → (o : Option LinkTextFault) → first_error 0 written ≡ o → HasReading bytes
    by written document (Some error) e = read_error bytes written error document e (first_is 0 written error e)
    by written document None e =
        let links = some_links written in
        let contexts = some_cut links.0 in
        inl (contexts.0, record { written = written; document = document; error_free = e; links = links.0; given = links.1; cut = contexts.1 })
