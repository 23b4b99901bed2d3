-- The answer to a document by the member `linkset` of its root, and to bytes by their document.
use Rattle.std.proofs.Common.{◌≡◌, ℕ, List, [], true, false, codes, Option, Some, None, refl, sym, ap, ◌∙◌, inl, inr}
use Rattle.std.specs.Prelude.{Result, Err, IfOk}
use Rattle.std.specs.List.{list_all}
use Rattle.std.specs.Option.{option_map_or}
use Rattle.std.specs.Str.{IsUtf8, bytes_eq, is_utf8}
use Rattle.std.proofs.lemmas.Slice.Eq.{bytes_eq-Decides}
use Rattle.std.proofs.lemmas.Str.{IsUtf8-from_is_utf8, is_utf8-from_IsUtf8}
use Rattle.gs_chars.proofs.TruthsAndLists.{true_or_false}
use Rattle.serde_json.specs.Data.{Data, null, boolean, number, string, array, object, Items, Members, no_members, put}
use Rattle.serde_json.specs.Find.{as_object, get_member}
use Rattle.serde_json.specs.Read.{read as read_text}
use Rattle.serde_json.proofs.Views.{get_member-put, get_member-put_other}
use Rattle.gs_json.specs.Members.{array_in, document_of}
use Rattle.gs_json.specs.Shapes.{items_list}
use Rattle.gs_json.specs.declared.error.JsonFault.{JsonFault}
use Rattle.gs_json.specs.declared.error.JsonFault.TheVariants.{Kind, Lacks, Syntax, Memory}
use Rattle.gs_linkset.specs.Answers.{document_answer, read_answer}
use Rattle.gs_linkset.specs.AnswersSupport.{contexts_answer, linkset_answer, linkset_place}
use Rattle.gs_linkset.specs.Documents.{contexts_of, document_errors}
use Rattle.gs_linkset.specs.LinkShapes.{is_context}
use Rattle.gs_linkset.specs.Tokens.{IsAnswer}
use Rattle.gs_linkset.specs.declared.link_types.Context.{Context}
use Rattle.gs_chars.specs.Answers.{OrError}

-- ---- the root is an object

abbrev by_linkset : Option Data → Result (List Context) JsonFault
by_linkset None = Err (Lacks linkset_place)
by_linkset (Some d) = linkset_answer d

by_value : (ms : Members) (o : Option Data) → get_member (codes "linkset") ms ≡ o → document_answer (object ms) ≡ by_linkset o
unfolding document_answer document_errors contexts_of contexts_answer linkset_answer
by_value ms None e = rw e refl
by_value ms (Some null) e = rw e refl
by_value ms (Some (boolean b)) e = rw e refl
by_value ms (Some (number n)) e = rw e refl
by_value ms (Some (string s)) e = rw e refl
by_value ms (Some (array items)) e = rw e refl
by_value ms (Some (object inner)) e = rw e refl

same_answer : (ms ns : Members) (o : Option Data) → get_member (codes "linkset") ms ≡ o → get_member (codes "linkset") ns ≡ o
    → document_answer (object ms) ≡ document_answer (object ns)
same_answer ms ns o a b = by_value ms o a ∙ sym (by_value ns o b)

-- without members there is no linkset
pub none_yet : (place : List ℕ) → place ≡ linkset_place → IsAnswer (Err (Lacks place)) no_members
none_yet place e = (inr (ap (λ p. Err (Lacks p)) e ∙ sym (by_value no_members None refl)), tt)

-- another member changes nothing
pub kept : (answer : Result (List Context) JsonFault) (name : List ℕ) (d : Data) (ms : Members) → bytes_eq name (codes "linkset") ≡ false
    → IsAnswer answer ms → IsAnswer answer (put name d ms)
kept answer name d ms other h =
    let apart = λ (e : codes "linkset" ≡ name). absurd (by name e other) in
    let same = same_answer (put name d ms) ms _ (get_member-put_other (codes "linkset") name d ms apart) refl in
    (rw same h.0, h.1)
  where
    by : (name : List ℕ) → codes "linkset" ≡ name → bytes_eq name (codes "linkset") ≡ false → ⊥
    by name e other = let t = rw (← e) at other in absurd (let g : true ≡ false = t in cc)

-- a `linkset` replaces an earlier one
pub replaced : (answer : Result (List Context) JsonFault) (name : List ℕ) (d : Data) (ms : Members) → bytes_eq name (codes "linkset") ≡ true
    → OrError Memory answer (linkset_answer d) → IfOk answer (λ contexts. list_all is_context contexts ≡ true) → IsAnswer answer (put name d ms)
replaced answer name d ms own h shape =
    let same : name ≡ codes "linkset" = (bytes_eq-Decides name (codes "linkset")).0 own in
    let found = by_value (put name d ms) (Some d) (rw same (get_member-put (codes "linkset") d ms)) in
    (rw found h, shape)

-- ---- the root is a value of another kind

pub no_object : (d : Data) → as_object d ≡ None → document_answer d ≡ Err (Kind [])
unfolding document_answer document_errors
no_object d e = rw e refl

pub no_linkset : (d : Data) → array_in d ≡ None → linkset_answer d ≡ Err (Kind linkset_place)
unfolding linkset_answer
no_linkset d e = rw e refl

pub linkset_is : (items : Items) (r : Result (List Context) JsonFault) → OrError Memory r (contexts_answer (items_list items))
    → OrError Memory r (linkset_answer (array items))
unfolding linkset_answer
linkset_is items r h = h

-- ---- the bytes of a document

pub text_answer : (bytes : List ℕ) (r : Result (List Context) JsonFault) → IsUtf8 bytes
    → OrError Memory r (option_map_or document_answer (read_text bytes) (Err Syntax)) → OrError Memory r (read_answer bytes)
unfolding read_answer document_of
text_answer bytes r text h = rw (is_utf8-from_IsUtf8 bytes text) h

pub no_text : (bytes : List ℕ) → (IsUtf8 bytes → ⊥) → OrError {X = List Context} Memory (Err Syntax) (read_answer bytes)
unfolding read_answer document_of
no_text bytes none = elim (true_or_false (is_utf8 bytes)) [
  | inl t ↦ absurd (none (IsUtf8-from_is_utf8 bytes t))
  | inr t ↦ rw t (inr refl)
]
