-- The text of the second version of a document has no fraction, and is read as the rows of the document in version 2.
use Rattle.std.proofs.Common.{◌≡◌, ℕ, ◌+◌, ◌≤◌, ◌==◌, true, false, Bool, List, [], ◌∷◌, map, Option, Some, None, option_and_then, unwrap_or, codes, Ordering, Less, Equal, Greater, refl, ap, subst, sym, ◌∙◌, arith, rules, tests}
use Rattle.std.specs.Prelude.{Result, Ok, Err, IfOk, IsUtf8}
use Rattle.std.specs.Cmp.Lexicographic.{slice_cmp}
use Rattle.std.specs.List.{AllByRecursion}
use Rattle.std.specs.Ordering.{match_ordering, nat_cmp}
use Rattle.std.proofs.lemmas.Str.{is_utf8-from_IsUtf8}
use Rattle.serde_json.specs.Data.{Data, null, boolean, number, unsigned, string, array, object, Items, no_items, item, Members, no_members, member, put, depth, items_depth, members_depth}
use Rattle.serde_json.specs.Find.{get_member}
use Rattle.serde_json.specs.Read.{max_depth, read as read_text}
use Rattle.serde_json.specs.View.{items_of as listed}
use Rattle.serde_json.specs.Written.{compact_text, has_float}
use Rattle.serde_json.proofs.Nesting.{depth-read}
use Rattle.gs_chars.proofs.TruthsAndLists.{nil_parts}
use Rattle.gs_json.specs.Members.{array_in, document_of, items_in, number_in}
use Rattle.gs_json.specs.Shapes.{items_list}
use Rattle.gs_json.specs.declared.error.JsonFault.TheVariants.{Kind}
use Rattle.gs_tables_document.specs.Documents.{IsDocument, document_errors, is_second}
use Rattle.gs_tables_document.specs.Readings.{Holds, IsJson}
use Rattle.gs_tables_document.specs.declared.document.Document.{Document}
use Rattle.gs_tables_document.proofs.OneReading.{one_of_bytes}
use Rattle.gs_tables_migration.specs.Migrations.{IsKnown, IsMigrated, in_second, kinds_with_fields, second_version, with_fields}
use Rattle.gs_tables_migration.proofs.SecondTrees.{second_document, second_errors}
use Rattle.gs_tables_migration.proofs.SortedTrees.{AreSorted, HaveSorted, IsSorted, sorted_member, sorted_put, sorted_read}
use Rattle.gs_tables_migration.proofs.WholeDocuments.{document_whole}
use Rattle.gs_tables_migration.proofs.WholeMembers.{some_error}
use Rattle.gs_json.proofs.PutMembers.{depth_put as deep_put}

-- ---- the rows of the second version

same_documents : (document : Document) → document.version ≡ 2 → document ≡ in_second document
same_documents document e = ap (λ version. record document { version = version }) e

two_from : (n : ℕ) → (n == 2) ≡ true → n ≡ 2
two_from n h = search (rules, tests)

module _ (document : Document) (known : IsKnown document) where
  second_by : (d : Data) (b : Bool) → is_second d ≡ b → document_errors d ≡ [] → IsDocument d document
      → (document_errors (second_version d) ≡ []) × IsDocument (second_version d) (in_second document)
  unfolding second_version document_errors
  second_by d true second none is =
      let version = is.version ∙ two_from (number_in (codes "version") d) second in
      let same = same_documents document version in
      rw second (none, rw same at is)
  second_by null false first none is = absurd (some_error (Kind []) [] (nil_parts (Kind [] ∷ []) _ none).0)
  second_by (boolean b) false first none is = absurd (some_error (Kind []) [] (nil_parts (Kind [] ∷ []) _ none).0)
  second_by (number n) false first none is = absurd (some_error (Kind []) [] (nil_parts (Kind [] ∷ []) _ none).0)
  second_by (string s) false first none is = absurd (some_error (Kind []) [] (nil_parts (Kind [] ∷ []) _ none).0)
  second_by (array ds) false first none is = absurd (some_error (Kind []) [] (nil_parts (Kind [] ∷ []) _ none).0)
  second_by (object ms) false first none is = rw first (second_errors ms document first none, second_document ms document first none is known)

  second_of : (d : Data) → document_errors d ≡ [] → IsDocument d document
      → (document_errors (second_version d) ≡ []) × IsDocument (second_version d) (in_second document)
  second_of d none is = second_by d (is_second d) refl none is

-- ---- the rows of an array

rows_all : (P : Data → Type 0) (o : Option Data) → ((ds : Items) → o ≡ Some (array ds) → AllByRecursion P (items_list ds))
    → AllByRecursion P (unwrap_or (option_and_then array_in o) [])
rows_all P None all = tt
rows_all P (Some null) all = tt
rows_all P (Some (boolean b)) all = tt
rows_all P (Some (number n)) all = tt
rows_all P (Some (string s)) all = tt
rows_all P (Some (array ds)) all = all ds refl
rows_all P (Some (object ms)) all = tt

-- ---- the tree is sorted

sorted_items : (ds : Items) → AreSorted ds → AllByRecursion IsSorted (items_list ds)
sorted_items no_items all = tt
sorted_items (item d ds) all = (all.0, sorted_items ds all.1)

sorted_fields : (d : Data) → IsSorted d → IsSorted (with_fields d)
sorted_fields null h = tt
sorted_fields (boolean b) h = tt
sorted_fields (number n) h = tt
sorted_fields (string s) h = tt
sorted_fields (array ds) h = h
sorted_fields (object ms) h = sorted_put (codes "fields") (array no_items) ms tt h

sorted_kinds : (rows : List Data) → AllByRecursion IsSorted rows → AreSorted (listed (map with_fields rows))
sorted_kinds [] all = tt
sorted_kinds (d ∷ rows) all = (sorted_fields d all.0, sorted_kinds rows all.1)

sorted_object : (ms : Members) → HaveSorted ms
    → HaveSorted (put (codes "version") (number (unsigned 2)) (put (codes "kinds") (kinds_with_fields (object ms)) ms))
sorted_object ms h =
    let rows = rows_all IsSorted (get_member (codes "kinds") ms) (λ ds found. sorted_items ds (sorted_member (codes "kinds") (array ds) ms h found)) in
    sorted_put (codes "version") (number (unsigned 2)) _ tt (sorted_put (codes "kinds") (kinds_with_fields (object ms)) ms (sorted_kinds (items_in (codes "kinds") (object ms)) rows) h)

sorted_by : (d : Data) (b : Bool) → is_second d ≡ b → IsSorted d → IsSorted (second_version d)
unfolding second_version
sorted_by d true second h = rw second h
sorted_by null false first h = tt
sorted_by (boolean b) false first h = tt
sorted_by (number n) false first h = tt
sorted_by (string s) false first h = tt
sorted_by (array ds) false first h = h
sorted_by (object ms) false first h = rw first (sorted_object ms h)

-- ---- the tree is as deep

deep_or : (o : Ordering) (n : ℕ) (d e : Data) (rest : Option Data) → depth e ≤ n → (rest ≡ Some d → depth d ≤ n)
    → match_ordering o rest (Some e) rest ≡ Some d → depth d ≤ n
deep_or Less n d e rest own more is = more is
deep_or Equal n d e rest own more is = let same : e ≡ d = cc in rw (← same) own
deep_or Greater n d e rest own more is = more is

deep_member : (n : ℕ) (k : List ℕ) (d : Data) (ms : Members) → members_depth ms ≤ n → get_member k ms ≡ Some d → depth d ≤ n
deep_member n k d no_members all found = absurd (let g : None ≡ Some d = found in cc)
deep_member n k d (member l e ms) all found =
    let own : depth e ≤ n = omega arith in
    let rest : members_depth ms ≤ n = omega arith in
    deep_or (slice_cmp nat_cmp k l) n d e (get_member k ms) own (deep_member n k d ms rest) found

deep_items : (n : ℕ) (ds : Items) → items_depth ds ≤ n → AllByRecursion (λ d. depth d ≤ n) (items_list ds)
deep_items n no_items all = tt
deep_items n (item d ds) all =
    let own : depth d ≤ n = omega arith in
    let rest : items_depth ds ≤ n = omega arith in
    (own, deep_items n ds rest)

deep_fields : (n : ℕ) (d : Data) → depth d ≤ n + 2 → depth (with_fields d) ≤ n + 2
deep_fields n null h = h
deep_fields n (boolean b) h = h
deep_fields n (number m) h = h
deep_fields n (string s) h = h
deep_fields n (array ds) h = h
deep_fields n (object ms) h =
    let all : members_depth ms ≤ n + 1 = omega arith in
    let own : depth (array no_items) ≤ n + 1 = omega arith in
    let put = deep_put (n + 1) (codes "fields") (array no_items) ms own all in
    omega arith

deep_kinds : (n : ℕ) (rows : List Data) → AllByRecursion (λ d. depth d ≤ n + 2) rows → items_depth (listed (map with_fields rows)) ≤ n + 2
deep_kinds n [] all = omega arith
deep_kinds n (d ∷ rows) all =
    let own = deep_fields n d all.0 in
    let rest = deep_kinds n rows all.1 in
    omega arith

deep_object : (n : ℕ) (ms : Members) → members_depth ms ≤ n + 3
    → members_depth (put (codes "version") (number (unsigned 2)) (put (codes "kinds") (kinds_with_fields (object ms)) ms)) ≤ n + 3
deep_object n ms h =
    let rows = rows_all (λ d. depth d ≤ n + 2) (get_member (codes "kinds") ms)
    (λ ds found. deep_items (n + 2) ds (let own = deep_member (n + 3) (codes "kinds") (array ds) ms h found in omega arith)) in
    let kinds : depth (kinds_with_fields (object ms)) ≤ n + 3 = let all = deep_kinds n (items_in (codes "kinds") (object ms)) rows in omega arith in
    let two : depth (number (unsigned 2)) ≤ n + 3 = omega arith in
    deep_put (n + 3) (codes "version") (number (unsigned 2)) _ two (deep_put (n + 3) (codes "kinds") (kinds_with_fields (object ms)) ms kinds h)

depth_by : (d : Data) (b : Bool) → is_second d ≡ b → depth d ≤ max_depth → depth (second_version d) ≤ max_depth
unfolding second_version
depth_by d true second h = rw second h
depth_by null false first h = h
depth_by (boolean b) false first h = h
depth_by (number n) false first h = h
depth_by (string s) false first h = h
depth_by (array ds) false first h = h
depth_by (object ms) false first h =
    let inner : members_depth ms ≤ 123 + 3 = omega arith in
    let all = deep_object 123 ms inner in
    rw first (omega arith)

-- ---- the text

known_second : (document : Document) → IsKnown document → IsKnown (in_second document)
known_second document known = record { version = refl; ais = known.ais; binary = known.binary; tag = known.tag; pure = known.pure }

module _ (bytes : List ℕ) (tree : Data) (json : IsJson bytes tree) (document : Document) (holds : Holds bytes document) (known : IsKnown document) where
  same_tree : holds.0 ≡ tree
  same_tree = let e : Some holds.0 ≡ Some tree = sym holds.1.1 ∙ json.1 in cc

  tree_second : (document_errors (second_version tree) ≡ []) × IsDocument (second_version tree) (in_second document)
  tree_second = second_of document known tree (rw same_tree at holds.2) (rw same_tree at holds.3)

  text_migrated : (text : List ℕ) → text ≡ compact_text (second_version tree) → IsMigrated bytes text
  unfolding document_of
  text_migrated text is = rw (is_utf8-from_IsUtf8 bytes json.0, json.1) is

  tree_whole : has_float (second_version tree) ≡ false
  tree_whole =
      document_whole (second_version tree) (in_second document) (sorted_by tree (is_second tree) refl (sorted_read bytes tree json.1)) tree_second.0 tree_second.1 (known_second document known)

  text_holds : (text : List ℕ) → IsUtf8 text → (depth (second_version tree) ≤ max_depth → read_text text ≡ Some (second_version tree))
      → Holds text (in_second document)
  text_holds text utf8 reads =
      let deep = depth_by tree (is_second tree) refl (depth-read bytes tree json.1) in
      (second_version tree, (utf8, reads deep), tree_second.0, tree_second.1)

  -- so of the text that is written of the tree, and of the rows that the bytes have
  written_holds : (second : Data) (text : List ℕ) → second ≡ second_version tree → IsUtf8 text → (depth second ≤ max_depth → read_text text ≡ Some second)
      → (other : Document) → Holds bytes other → Holds text (in_second other)
  written_holds second text is utf8 reads other holds' =
      let one = one_of_bytes bytes document other holds holds' in
      let back : depth (second_version tree) ≤ max_depth → read_text text ≡ Some (second_version tree) = rw is at reads in
      subst (λ d. Holds text (in_second d)) one (text_holds text utf8 back)

  module _ {E : Type 0} (second : Data) (is : second ≡ second_version tree) where
    pub answer_migrated : (answer : Result (List ℕ) E) → IfOk answer (λ text. has_float second ≡ false → text ≡ compact_text second)
        → IfOk answer (IsMigrated bytes)
    answer_migrated (Ok text) written = text_migrated text (rw is at (written (rw is tree_whole)))
    answer_migrated (Err e) written = tt

    pub answer_holds : (answer : Result (List ℕ) E) → IfOk answer IsUtf8 → IfOk answer (λ text. depth second ≤ max_depth → read_text text ≡ Some second)
        → IfOk answer (λ text. (other : Document) → Holds bytes other → Holds text (in_second other))
    answer_holds (Ok text) utf8 reads = written_holds second text is utf8 reads
    answer_holds (Err e) utf8 reads = tt
