-- The texts of a tree that `serde_json` reads are UTF-8.
use Rattle.std.proofs.Common.{◌≡◌, ℕ, true, List, Option, Some, None, refl, sym, ap, ◌∙◌, string_bytes}
use Rattle.std.specs.Prelude.{Result, Ok, Err, IfOk}
use Rattle.std.specs.Str.{is_utf8}
use Rattle.std.proofs.lemmas.Str.{IsUtf8-string_bytes, is_utf8-from_IsUtf8}
use Rattle.serde_json.specs.Data.{Data}
use Rattle.serde_json.specs.Find.{as_str}
use Rattle.gs_json.specs.Answers.{asked}
use Rattle.gs_chars.proofs.ErrorAnswers.{no_error}
use Rattle.gs_json.specs.declared.error.JsonFault.{JsonFault}
use Rattle.gs_json.specs.declared.error.JsonFault.TheVariants.{Memory}
use Rattle.serde_json.specs.View.{view, view_step}
use Rattle.serde_json.specs.declared.value.Value.{Value as Tree, out-Value, map-Value}
use Rattle.serde_json.specs.declared.value.Value.TheFolds.{fold_out-Value}
use Rattle.serde_json.specs.declared.value.Value.TheOpen as layer
use Rattle.gs_chars.specs.Answers.{OrError}

step_text : (x : layer.Value-F Data) (t : List ℕ) → as_str (view_step x) ≡ Some t → is_utf8 t ≡ true
step_text layer.Value-F.Null t h = absurd (let g : None ≡ Some t = h in cc)
step_text (layer.Value-F.Bool b) t h = absurd (let g : None ≡ Some t = h in cc)
step_text (layer.Value-F.Number n) t h = absurd (let g : None ≡ Some t = h in cc)
step_text (layer.Value-F.String s) t h =
    let same : string_bytes s ≡ t = cc in
    rw (← same) (is_utf8-from_IsUtf8 (string_bytes s) (IsUtf8-string_bytes s))
step_text (layer.Value-F.Array ds) t h = absurd (let g : None ≡ Some t = h in cc)
step_text (layer.Value-F.Object ms) t h = absurd (let g : None ≡ Some t = h in cc)

-- a text in a tree is UTF-8
pub text_is_utf8 : (v : Tree) (t : List ℕ) → as_str (view v) ≡ Some t → is_utf8 t ≡ true
text_is_utf8 v t h = step_text (map-Value Tree Data view (out-Value v)) t (sym (ap as_str (fold_out-Value Data view_step v)) ∙ h)

pub own_text : (place : List ℕ) (v : Tree) (t : List ℕ) → Ok t ≡ asked place (as_str (view v)) → is_utf8 t ≡ true
own_text place v t h = by (as_str (view v)) refl
  where
    by : (o : Option (List ℕ)) → as_str (view v) ≡ o → is_utf8 t ≡ true
    by None e = absurd (let g : Ok t ≡ asked place None = rw e at h in cc)
    by (Some s) e =
        let g : Ok t ≡ asked place (Some s) = rw e at h in
        let same : t ≡ s = cc in
        rw same (text_is_utf8 v s e)

pub read_text : (place : List ℕ) (v : Tree) (r : Result (List ℕ) JsonFault) → OrError Memory r (asked place (as_str (view v))) → IfOk r (λ t. is_utf8 t ≡ true)
read_text place v (Ok t) h = own_text place v t (no_error Memory t (asked place (as_str (view v))) h)
read_text place v (Err error) h = tt
