-- The links of a document, link by link.
use Rattle.std.proofs.Common.{◌≡◌, ℕ, suc, ◌+◌, ◌<◌, ◌≤◌, List, [], ◌∷◌, ◌++◌, Some, None, length, take, drop, get_or, map, slice_get, refl, ap, sym, ◌∙◌, append_assoc, append-nil, zero, arith, Bor, Bool, true, false, ◌==◌, ◌||◌, bytes_eq, codes, unwrap_or, filter}
use Rattle.std.specs.List.{list_any}
use Rattle.std.proofs.lemmas.List.{take_all}
use Rattle.gs_linkset.specs.declared.link_types.Attr.{Attr}
use Rattle.gs_linkset.specs.declared.link_types.Context.{Context}
use Rattle.gs_linkset.specs.declared.link_types.Target.{Target}
use Rattle.gs_linktext_grammar.specs.Answers.{IsSyntax}
use Rattle.gs_linktext.specs.Contexts.{IsCut}
use Rattle.gs_linktext_grammar.specs.Grammar.{is_some_part, IsDocument}
use Rattle.gs_linktext.specs.Links.{first_error, first_value, is_rel_error, link_error, types_of, IsAttributes, IsLinksOf, IsLinksOfLink}
use Rattle.gs_linktext.specs.ReadAnswers.{IsReadAs, IsReadError}
use Rattle.gs_linktext.specs.Steps.{IsErrorOfLink, IsMoreLinks}
use Rattle.gs_linktext_grammar.specs.declared.error.LinkTextFault.{LinkTextFault}
use Rattle.gs_linktext_grammar.specs.declared.error.LinkTextFault.TheVariants.{Syntax, Anchor, Rel, Memory}
use Rattle.gs_linktext_grammar.specs.declared.written_link.Param.{Param}
use Rattle.gs_linktext_grammar.specs.declared.written_link.WrittenLink.{WrittenLink}
use Rattle.gs_linktext_grammar.proofs.PartLemmas.{drop_all, drop_at}
use Rattle.std.specs.Option.{option_or}

-- a link: its anchor, its relation type and its target
abbrev Link : Type 0
Link = List ℕ × List ℕ × Target

map_snoc : (f : List ℕ → Link) (xs : List (List ℕ)) (x : List ℕ) → map f (xs ++ x ∷ []) ≡ map f xs ++ f x ∷ []
map_snoc f [] x = refl
map_snoc f (y ∷ xs) x = ap (λ (ys : List Link). f y ∷ ys) (map_snoc f xs x)

pub take_at : {X : Type 0} (xs : List X) (k : ℕ) (x : X) → slice_get xs k ≡ Some x → take (k + 1) xs ≡ take k xs ++ x ∷ []
take_at {X = X} xs k x h = let next : k + 1 ≡ suc k = omega arith in rw next (by xs k h)
  where
    by : (ys : List X) (i : ℕ) → slice_get ys i ≡ Some x → take (suc i) ys ≡ take i ys ++ x ∷ []
    by [] i h = absurd (let e : None ≡ Some x = h in cc)
    by (y ∷ ys) zero h = let same : y ≡ x = (let e : Some y ≡ Some x = h in cc) in rw same refl
    by (y ∷ ys) (suc i) h = ap (λ (zs : List X). y ∷ zs) (by ys i h)

pub types_step : (links : List Link) (f : List ℕ → Link) (types : List (List ℕ)) (k : ℕ) (type : List ℕ) → slice_get types k ≡ Some type
    → (links ++ map f (take k types)) ++ f type ∷ [] ≡ links ++ map f (take (k + 1) types)
types_step links f types k type at =
    append_assoc links (map f (take k types)) (f type ∷ []) ∙ ap (λ (ls : List Link). links ++ ls)
    (sym (map_snoc f (take k types) type) ∙ sym (ap (map f) (take_at types k type at)))

links_more : (written : List WrittenLink) (links own : List Link) (link : WrittenLink) → IsLinksOf written links → IsLinksOfLink link own
    → IsLinksOf (written ++ link ∷ []) (links ++ own)
links_more [] links own link h is = (own, [], is, refl, ap (λ (ls : List Link). ls ++ own) h ∙ sym (append-nil own))
links_more (first ∷ written) links own link (its, more, of_first, of_rest, all) is =
    (its, more ++ own, of_first, links_more written more own link of_rest is, ap (λ (ls : List Link). ls ++ own) all ∙ append_assoc its more own)

-- the links of the first written links are cut into the contexts
abbrev pub AreCut : List WrittenLink → ℕ → List Context → Type 0
AreCut written i contexts = (links : List Link) × IsLinksOf (take i written) links × IsCut links contexts

pub cut_none : (written : List WrittenLink) (contexts : List Context) → contexts ≡ [] → AreCut written 0 contexts
cut_none written contexts none = ([], refl, rw none (record { same = refl; ascending = refl; full = refl; apart = refl }))

pub cut_one : (written : List WrittenLink) (i : ℕ) (link : WrittenLink) (old new : List Context) → slice_get written i ≡ Some link
    → AreCut written i old → IsMoreLinks link old new → AreCut written (i + 1) new
cut_one written i link old new at (links, given, cut) (own, is, more) =
    (links ++ own, rw (take_at written i link at) (links_more (take i written) links own link given is), more links cut)

pub error_one : (written : List WrittenLink) (i : ℕ) (link : WrittenLink) → slice_get written i ≡ Some link
    → first_error 0 written ≡ first_error i (drop i written) → link_error i link ≡ None
    → first_error 0 written ≡ first_error (i + 1) (drop (i + 1) written)
error_one written i link at h none =
    h ∙ ap (first_error i) (drop_at written i link at) ∙ ap (λ o. option_or o (first_error (i + 1) (drop (i + 1) written))) none

pub no_error : (written : List WrittenLink) (i : ℕ) → length written ≤ i → first_error 0 written ≡ first_error i (drop i written) → first_error 0 written ≡ None
no_error written i all h = h ∙ ap (first_error i) (drop_all written i all)

pub is_read : (bytes : List ℕ) (written : List WrittenLink) (i : ℕ) (contexts : List Context) → IsDocument bytes written
    → length written ≤ i → first_error 0 written ≡ first_error i (drop i written) → AreCut written i contexts → IsReadAs bytes contexts
is_read bytes written i contexts document all h (links, given, cut) =
    record { written = written; document = document; error_free = no_error written i all h; links = links; given = rw (take_all i written all) at given; cut = cut }

pub is_rejected : (bytes : List ℕ) (written : List WrittenLink) (i : ℕ) (link : WrittenLink) (error : LinkTextFault)
    → IsDocument bytes written → slice_get written i ≡ Some link → first_error 0 written ≡ first_error i (drop i written)
    → IsErrorOfLink (link_error i link) error → IsReadError bytes error
is_rejected bytes written i link Syntax document at h own = absurd own
is_rejected bytes written i link (Anchor j) document at h own =
    (written, document, h ∙ ap (first_error i) (drop_at written i link at) ∙ ap (λ o. option_or o (first_error (i + 1) (drop (i + 1) written))) own)
is_rejected bytes written i link (Rel j) document at h own =
    (written, document, h ∙ ap (first_error i) (drop_at written i link at) ∙ ap (λ o. option_or o (first_error (i + 1) (drop (i + 1) written))) own)
is_rejected bytes written i link Memory document at h own = tt

pub syntax_rejected : (bytes : List ℕ) (error : LinkTextFault)
    → IsSyntax ((written : List WrittenLink) → IsDocument bytes written → ⊥) error → IsReadError bytes error
syntax_rejected bytes Syntax h = h
syntax_rejected bytes (Anchor i) h = absurd h
syntax_rejected bytes (Rel i) h = absurd h
syntax_rejected bytes Memory h = tt

-- ---- relation types that are lent

any_seen : (test : List ℕ → Bool) (types : List (Bor (List ℕ))) → list_any (λ type. test type.now) types ≡ list_any test (map (λ type. type.now) types)
any_seen test [] = refl
any_seen test (type ∷ types) = ap (λ b. test type.now || b) (any_seen test types)

pub rel_seen : (types : List (Bor (List ℕ))) (found : Bool) → false ≡ (length types == 0)
    → found ≡ list_any (λ type. bytes_eq type.now (codes "anchor")) types → found ≡ is_rel_error (map (λ type. type.now) types)
rel_seen [] found some h = absurd (let e : false ≡ true = some in cc)
rel_seen (type ∷ types) found some h = h ∙ any_seen (λ t. bytes_eq t (codes "anchor")) (type ∷ types)

-- ---- the links of one written link

pub more_links : (link : WrittenLink) (old new : List Context) (anchor href : List ℕ) (attrs : List Attr) (params : List Param) (types : List (List ℕ))
    → params ≡ link.params → href ≡ link.href → first_value (codes "anchor") params ≡ Some anchor → IsAttributes params attrs
    → types ≡ types_of params
    → ((links : List Link) → IsCut links old → IsCut (links ++ map (λ type. (anchor, type, record { href = href; attrs = attrs })) types) new) → IsMoreLinks link old new
more_links link old new anchor href attrs params types own same first attributes typed more = (
  map with_type types,
  record { attrs = attrs; attributes = rw own at attributes; is = is },
  more,
)
  where
    with_type : List ℕ → Link
    with_type type = (anchor, type, record { href = href; attrs = attrs })

    of_link : List ℕ → List ℕ → List ℕ → Link
    of_link a h type = (a, type, record { href = h; attrs = attrs })

    at : first_value (codes "anchor") link.params ≡ Some anchor
    at = ap (first_value (codes "anchor")) (sym own) ∙ first

    is : map with_type types ≡ map (of_link (unwrap_or (first_value (codes "anchor") link.params) []) link.href) (types_of link.params)
    is =
        ap (λ a. map (of_link a href) types) (sym (ap (λ o. unwrap_or o []) at)) ∙ ap
        (λ h. map (of_link (unwrap_or (first_value (codes "anchor") link.params) []) h) types) same
        ∙ ap (map (of_link (unwrap_or (first_value (codes "anchor") link.params) []) link.href)) (typed ∙ ap types_of own)

pub some_seen : (parts : List (Bor (List ℕ)))
    → map (λ part. part.now) (filter (λ part. is_some_part part.now) parts) ≡ filter is_some_part (map (λ part. part.now) parts)
some_seen [] = refl
some_seen (part ∷ parts) = by (is_some_part part.now) refl (some_seen parts)
  where
    by : (b : Bool) → is_some_part part.now ≡ b
        → map (λ part. part.now) (filter (λ part. is_some_part part.now) parts) ≡ filter is_some_part (map (λ part. part.now) parts)
        → map (λ part. part.now) (filter (λ part. is_some_part part.now) (part ∷ parts)) ≡ filter is_some_part (map (λ part. part.now) (part ∷ parts))
    by true e more = rw e (ap (λ (ps : List (List ℕ)). part.now ∷ ps) more)
    by false e more = rw e more

borrowed_any : (values : List (Bor (List ℕ))) (i : ℕ) (d : Bor (List ℕ)) → i < length values
    → slice_get (map (λ type. type.now) values) i ≡ Some (get_or values i d).now
borrowed_any [] i d low = absurd (omega (arith, low))
borrowed_any (v ∷ vs) zero d low = refl
borrowed_any (v ∷ vs) (suc i) d low = borrowed_any vs i d (omega (arith, low))

pub cut_any : (links : List Link) (f : List ℕ → Link) (values : List (Bor (List ℕ))) (i : ℕ) (d : Bor (List ℕ)) (new : List Context)
    → i < length values → IsCut ((links ++ map f (take i (map (λ type. type.now) values))) ++ f (get_or values i d).now ∷ []) new
    → IsCut (links ++ map f (take (i + 1) (map (λ type. type.now) values))) new
cut_any links f values i d new low cut = rw (types_step links f (map (λ type. type.now) values) i (get_or values i d).now (borrowed_any values i d low)) at cut
