-- Laws of checks, of lists that are checked, and of lines that are written. Those that other crates cite are the contracts of the functions
-- of `decoding` and `writing`.
use Rattle.std.proofs.Common.{◌≡◌, ℕ, suc, ◌+◌, ◌<◌, List, [], ◌∷◌, ◌++◌, length, get_or, take, drop, Option, Some, None, Result, Ok, Err, Bool, true, false, IsTrue, ◌↔◌, refl, sym, ap, subst, ◌∙◌, arith, append_assoc, add-one}
use Rattle.std.specs.Prelude.{IfOk, IsErr, IsErrAnd, IsErrOf}
use Rattle.std.specs.Io.KnownBytes.{Appends}
use Rattle.std.proofs.Math.Seq.{drop-cons, take-append_seam}
use Rattle.std.proofs.lemmas.List.{append-nil, take-append-drop}
use Rattle.std.proofs.lemmas.Bool.Decides.{nat_tests}
use Rattle.serde_json.specs.Data.{Data}
use Rattle.serde_json.specs.View.{view, items_view}
use Rattle.serde_json.specs.declared.value.Value.{Value}
use Rattle.json_program.specs.declared.fault.FaultName.{FaultName}
use Rattle.json_program.specs.declared.fault.DecodeError.{DecodeError}
use Rattle.json_program.specs.declared.fault.DecodeError.TheVariants as decode_error
use Rattle.json_program.specs.declared.status.RunError.TheVariants.{Write}
use Rattle.json_program.specs.Decoded.{Decodes, FailAlike, result_map}
use Rattle.json_program.specs.Elements.{IsNext, ListCheck, SoFar, completed, first, joined, so_far, with_element}
use Rattle.json_program.specs.Faults.{Checked, first_fault, with_fault, unit_answer, keep_fault, ◌⊛◌, both, in_unit}
use Rattle.json_program.specs.Errors.{written}
use Rattle.json_program.specs.Json.{list_of}
use Rattle.json_program.specs.Stream.{AppendsPrefix, IsWritten, WritesText}

-- two checks of values in memory are the checks of what the values show
pub both-views : {A B C D : Type 0} (f : A → C) (g : B → D) (a : Checked A) (b : Checked B)
    → result_map (λ p. (f p.0, g p.1)) (both a b) ≡ both (result_map f a) (result_map g b)
both-views f g (Ok a) (Ok b) = refl
both-views f g (Ok a) (Err n) = refl
both-views f g (Err m) (Ok b) = refl
both-views f g (Err m) (Err n) = refl

-- a function of two values, one after the other
pub ⊛-both : {A B C : Type 0} (f : A → B → C) (a : Checked A) (b : Checked B)
    → Ok f ⊛ a ⊛ b ≡ result_map (λ p. f p.0 p.1) (both a b)
⊛-both f (Ok a) (Ok b) = refl
⊛-both f (Ok a) (Err n) = refl
⊛-both f (Err m) (Ok b) = refl
⊛-both f (Err m) (Err n) = refl

-- equal values of checks
ok_is : {A E : Type 0} (x y : A) → ◌≡◌ {A = Result A E} (Ok x) (Ok y) → x ≡ y
ok_is x y is = cc

-- ---- lists

-- of three faults it does not matter which two are compared first
pub first_fault-assoc : (a b c : FaultName) → first_fault (first_fault a b) c ≡ first_fault a (first_fault b c)
first_fault-assoc a b c = grind (arith, nat_tests)

-- one more value goes after those so far
pub joined-good : {A : Type 0} (fault : Option FaultName) (xs : List A) (x : A) (rest : Checked (List A))
    → joined (so_far fault xs) (first (Ok x) rest) ≡ joined (so_far fault (xs ++ x ∷ [])) rest
joined-good None xs x (Ok ys) = ap (λ zs. Ok zs) (sym (append_assoc xs (x ∷ []) ys))
joined-good None xs x (Err n) = refl
joined-good (Some m) xs x (Ok ys) = refl
joined-good (Some m) xs x (Err n) = refl

-- one more fault is compared with the fault so far
pub joined-bad : {A : Type 0} (fault : Option FaultName) (xs : List A) (name : FaultName) (rest : Checked (List A))
    → joined (so_far fault xs) (first (Err name) rest) ≡ joined (so_far (with_fault fault name) xs) rest
joined-bad None xs name (Ok ys) = refl
joined-bad None xs name (Err n) = refl
joined-bad (Some m) xs name (Ok ys) = refl
joined-bad (Some m) xs name (Err n) = ap (λ f. Err f) (sym (first_fault-assoc m name n))

pub joined-end : {A : Type 0} (checked : Checked (List A)) → joined checked (Ok []) ≡ checked
joined-end (Ok xs) = ap (λ zs. Ok zs) (append-nil xs)
joined-end (Err n) = refl

-- ---- errors

-- a value or fault that is kept is what is decoded
pub keep_fault-decoded : {A B : Type 0} (view : A → B) (answer : Result A (DecodeError FaultName)) (checked : Checked A) (decoded : Checked B)
    → Decodes view answer decoded → keep_fault answer ≡ Ok checked → result_map view checked ≡ decoded
keep_fault-decoded view (Ok value) checked decoded is same = ap (result_map view) (sym (ok_is _ _ same)) ∙ sym is
keep_fault-decoded view (Err (decode_error.Fault name)) checked decoded is same = ap (result_map view) (sym (ok_is _ _ same)) ∙ sym is
keep_fault-decoded view (Err decode_error.OutOfMemory) checked decoded is same = absurd cc

-- a fault that ends the check, as it is returned
pub passed_on : {A B : Type 0} (view : A → B) (answer : Result A (DecodeError FaultName)) (name : FaultName) (decoded : Checked B)
    → IsErrAnd answer (λ given. given ≡ decode_error.Fault name) → Err name ≡ decoded → Decodes view answer decoded
passed_on view (Ok value) name decoded given is = absurd given
passed_on view (Err given) name decoded same is = subst (λ r. Decodes view (Err r) decoded) (sym same) (sym is)

-- an error that ends the check, as it is returned
pub same_error : {A B F : Type 0} (view : A → B) (answer : Result A (DecodeError F)) (why : DecodeError F) (decoded : Result B F)
    → IsErrAnd answer (λ given. given ≡ why) → Decodes view (Err why) decoded → Decodes view answer decoded
same_error view (Ok value) why decoded given is = absurd given
same_error view (Err given) why decoded same is = subst (λ r. Decodes view (Err r) decoded) (sym same) is

-- the result of a unit's check is decoded as the unit's
pub unit_answer-decoded : {A B : Type 0} (view : A → B) (n : ℕ) (answer : Result A (DecodeError FaultName)) (decoded : Checked B)
    → Decodes view answer decoded → Decodes view (unit_answer n answer) (in_unit n decoded)
unit_answer-decoded view n (Ok value) decoded is = ap (in_unit n) is
unit_answer-decoded view n (Err (decode_error.Fault name)) decoded is = ap (in_unit n) is
unit_answer-decoded view n (Err decode_error.OutOfMemory) decoded is = tt

-- a unit's value is what is decoded
pub unit_answer-good : {A B : Type 0} (view : A → B) (n : ℕ) (answer : Result A (DecodeError FaultName)) (decoded : Checked B) (value : A)
    → Decodes view answer decoded → unit_answer n answer ≡ Ok value → decoded ≡ Ok (view value)
unit_answer-good view n (Ok given) decoded value is same = is ∙ ap (λ v. Ok (view v)) (ok_is _ _ same)
unit_answer-good view n (Err (decode_error.Fault name)) decoded value is same = absurd cc
unit_answer-good view n (Err decode_error.OutOfMemory) decoded value is same = absurd cc

-- two checks that fail alike decode alike
pub fails_alike : {A B F : Type 0} (view : A → B) (one other : Result A (DecodeError F)) (decoded : Result B F)
    → FailAlike one other → Decodes view other decoded → Decodes view one decoded
fails_alike view (Ok value) other decoded alike is = absurd alike
fails_alike view (Err error) other decoded alike is = subst (λ r. Decodes view r decoded) alike is

-- what holds of the value, whichever it is
pub if_ok : {T E : Type 0} (result : Result T E) (P : T → Type 0) → ((value : T) → result ≡ Ok value → P value) → IfOk result P
if_ok (Ok value) P holds = holds value refl
if_ok (Err error) P holds = tt

-- a fault that ends the check of a value that takes no memory
pub same_fault : {A : Type 0} (answer : Checked A) (name : FaultName) (decoded : Checked A)
    → IsErrAnd answer (λ given. given ≡ name) → Err name ≡ decoded → answer ≡ decoded
same_fault (Ok value) name decoded given is = absurd given
same_fault (Err given) name decoded same is = ap (λ n. Err n) same ∙ is

-- ---- several fields

seen : {A B C X : Type 0} (f : X → A → B) (g : C → A) (x : Checked X) (y : Checked C)
    → result_map (λ p. f p.0 (g p.1)) (both x y) ≡ result_map f x ⊛ result_map g y
seen f g (Ok a) (Ok b) = refl
seen f g (Ok a) (Err n) = refl
seen f g (Err m) (Ok b) = refl
seen f g (Err m) (Err n) = refl

-- a value that the logic sees as it is
pub as_it_is : {A : Type 0} (x a : Checked A) → x ≡ a → result_map (λ v. v) x ≡ a
as_it_is (Ok v) a is = is
as_it_is (Err n) a is = is

-- the first field
pub first-field : {A B C : Type 0} (f : A → B) (g : C → A) (x : Checked C) (a : Checked A) → result_map g x ≡ a → result_map (λ v. f (g v)) x ≡ Ok f ⊛ a
first-field f g (Ok v) a is = ap (λ r. Ok f ⊛ r) is
first-field f g (Err n) a is = ap (λ r. Ok f ⊛ r) is

-- one more field: what the fields before it give, seen by f, is a, and what this one gives, seen by g, is b
pub and-field : {A B C X : Type 0} (f : X → A → B) (g : C → A) (x : Checked X) (y : Checked C) (z : Checked (X × C))
    (a : Checked (A → B)) (b : Checked A) → result_map f x ≡ a → result_map g y ≡ b → z ≡ both x y
    → result_map (λ p. f p.0 (g p.1)) z ≡ a ⊛ b
and-field f g x y z a b before here is =
    ap (result_map (λ p. f p.0 (g p.1))) is ∙ seen f g x y ∙ ap (λ r. r ⊛ result_map g y) before ∙ ap (λ r. a ⊛ r) here

-- ---- elements by their index

-- the element at an index, before those after it
pub drop-element : (vs : List Value) (i : ℕ) (v : Value) → i < length vs → v ≡ get_or vs i v → drop i vs ≡ v ∷ drop (i + 1) vs
drop-element vs i v within is = rw (add-one, drop-cons vs i v) (ap (λ w. w ∷ drop (suc i) vs) (sym is))

pub list_of-drop : {A : Type 0} (value_in : Data → Checked A) (vs : List Value) (i : ℕ) (v : Value) → i < length vs → v ≡ get_or vs i v
    → list_of value_in (items_view (drop i vs)) ≡ first (value_in (view v)) (list_of value_in (items_view (drop (i + 1) vs)))
list_of-drop value_in vs i v within is = ap (λ ws. list_of value_in (items_view ws)) (drop-element vs i v within is)

-- After i elements `fault` and `xs` are what they gave. One more gives a value, which goes after those.
pub kept-good : {A : Type 0} (value_in : Data → Checked A) (vs : List Value) (i : ℕ) (v : Value) (fault later : Option FaultName) (xs ys : List A) (x : A)
    (all : Checked (List A)) → i < length vs → v ≡ get_or vs i v
    → all ≡ joined (so_far fault xs) (list_of value_in (items_view (drop i vs)))
    → value_in (view v) ≡ Ok x → ys ≡ xs ++ x ∷ [] → later ≡ fault
    → all ≡ joined (so_far later ys) (list_of value_in (items_view (drop (i + 1) vs)))
kept-good value_in vs i v fault later xs ys x all within is before gives more same =
    let rest = list_of value_in (items_view (drop (i + 1) vs)) in
    before ∙ ap (joined (so_far fault xs)) (list_of-drop value_in vs i v within is ∙ ap (λ r. first r rest) gives) ∙ joined-good fault xs x rest
    ∙ ap (λ zs. joined (so_far fault zs) rest) (sym more) ∙ ap (λ f. joined (so_far f ys) rest) (sym same)

-- One more gives a fault, which is compared with the fault so far.
pub kept-bad : {A : Type 0} (value_in : Data → Checked A) (vs : List Value) (i : ℕ) (v : Value) (fault later : Option FaultName) (xs ys : List A) (name : FaultName)
    (all : Checked (List A)) → i < length vs → v ≡ get_or vs i v
    → all ≡ joined (so_far fault xs) (list_of value_in (items_view (drop i vs)))
    → value_in (view v) ≡ Err name → ys ≡ xs → later ≡ with_fault fault name
    → all ≡ joined (so_far later ys) (list_of value_in (items_view (drop (i + 1) vs)))
kept-bad value_in vs i v fault later xs ys name all within is before gives same more =
    let rest = list_of value_in (items_view (drop (i + 1) vs)) in
    before ∙ ap (joined (so_far fault xs)) (list_of-drop value_in vs i v within is ∙ ap (λ r. first r rest) gives) ∙ joined-bad fault xs name rest
    ∙ ap (λ zs. joined (so_far (with_fault fault name) zs) rest) (sym same) ∙ ap (λ f. joined (so_far f ys) rest) (sym more)

-- One more element, whatever it gives.
pub kept-more : {A : Type 0} (list : ListCheck A) (s : SoFar A) (v : Value) (given : Checked A) → IsNext list s v
    → list.value_in (view v) ≡ given → completed list s ≡ completed list (with_element s given)
kept-more list s v (Ok x) next gives =
    kept-good list.value_in list.elements s.count v s.fault s.fault s.values _ x _ next.0 next.1 refl gives refl refl
kept-more list s v (Err name) next gives =
    kept-bad list.value_in list.elements s.count v s.fault _ s.values s.values name _ next.0 next.1 refl gives refl refl

-- ---- lines

-- nothing is written yet
pub written_none : (old : Option (List ℕ)) (all : List ℕ) → IsWritten old old all all
written_none None all = ([], tt, refl)
written_none (Some xs) all = ([], sym (append-nil xs), refl)

-- one append after another
pub appends_both : (old mid new : Option (List ℕ)) (xs ys : List ℕ) → Appends old mid xs → Appends mid new ys → Appends old new (xs ++ ys)
appends_both None mid new xs ys h k = tt
appends_both (Some us) None new xs ys h k = absurd h
appends_both (Some us) (Some vs) None xs ys h k = absurd k
appends_both (Some us) (Some vs) (Some ws) xs ys h k = k ∙ (ap (λ (zs : List ℕ). zs ++ ys) h ∙ append_assoc us xs ys)

-- a line more is written
pub written_more : (old mid new : Option (List ℕ)) (line left all : List ℕ) → IsWritten old mid (line ++ left) all → Appends mid new line → IsWritten old new left all
written_more old mid new line left all (front, added, whole) h = (front ++ line, appends_both old mid new front line added h, append_assoc front line left ∙ whole)

-- all is written
pub written_all : (old new : Option (List ℕ)) (all : List ℕ) → IsWritten old new [] all → Appends old new all
written_all old new all (front, added, whole) = subst (λ (xs : List ℕ). Appends old new xs) (sym (append-nil front) ∙ whole) added

-- a prefix is written
pub written_prefix : (old new : Option (List ℕ)) (left all : List ℕ) → IsWritten old new left all → AppendsPrefix old new all
written_prefix old new left all (front, added, whole) = (length front, subst (λ (xs : List ℕ). Appends old new xs) (sym (take-append_seam front left) ∙ ap (take (length front)) whole) added)

-- a prefix of a line is written, and then of all
pub begun_line : (old mid new : Option (List ℕ)) (line left all : List ℕ) → IsWritten old mid (line ++ left) all → AppendsPrefix mid new line → AppendsPrefix old new all
begun_line old mid new line left all written (count, added) =
    written_prefix old new (drop count line ++ left) all
    (written_more old mid new (take count line) (drop count line ++ left) all
    (subst (λ (xs : List ℕ). IsWritten old mid xs all) (ap (λ (xs : List ℕ). xs ++ left) (sym (take-append-drop count line)) ∙ append_assoc (take count line) (drop count line) left) written) added)

-- nothing is a prefix of any text
begun_none : (old : Option (List ℕ)) (all : List ℕ) → AppendsPrefix old old all
begun_none old all = written_prefix old old all all (written_none old all)

-- a call that fails after it wrote a prefix of a text
pub fails_after : {T E : Type 0} (result : Result T E) (old new : Option (List ℕ)) (text : List ℕ) → IsErr result → AppendsPrefix old new text
    → WritesText result old new text
fails_after (Ok value) old new text failed begun = absurd cc
fails_after (Err error) old new text failed begun = record { whole = tt; prefix = begun }

-- a call that fails before it writes
pub writes_nothing : {T E : Type 0} (result : Result T E) (old : Option (List ℕ)) (text : List ℕ) → IsErr result → WritesText result old old text
writes_nothing result old text failed = fails_after result old old text failed (begun_none old text)

-- after a write that succeeds the sink hasn't failed
pub not_failed : (failed : Bool) → (IsErrOf written Write ↔ IsTrue failed) → failed ≡ false
not_failed true h = let e : written ≡ Err Write = h.1 refl in cc
not_failed false h = refl
