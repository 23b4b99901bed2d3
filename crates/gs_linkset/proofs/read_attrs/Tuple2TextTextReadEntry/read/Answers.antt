use Rattle.std.proofs.Common.{◌≡◌, ℕ, true, List, refl}
use Rattle.std.specs.Prelude.{IsUtf8}
use Rattle.std.proofs.lemmas.Str.{is_utf8-from_IsUtf8}
use Rattle.gs_linkset.specs.LinkShapes.{is_tagged_text}
use Rattle.gs_linkset.proofs.read_attrs.Tuple2TextTextReadEntry.read.Goals as goal

both_utf8 : (text language : List ℕ) → IsUtf8 text → IsUtf8 language → is_tagged_text (text, language) ≡ true
both_utf8 text language a b = rw (is_utf8-from_IsUtf8 text a, is_utf8-from_IsUtf8 language b) refl

pub returns-in_ok-from_bytes-in-Some-2-clause-shape : goal.returns-in_ok-from_bytes-in-Some-2-clause-shape
returns-in_ok-from_bytes-in-Some-2-clause-shape c =
    rw (c.in_ok-from_bytes-in-Some.ensures, c.in_ok-from_bytes-in-Some-2.ensures) (both_utf8 _ _ c.as_bytes.ensures.utf8 c.as_bytes-in-Some.ensures.utf8)
