-- The text of a document, part by part. What other crates cite is the contract of `text_by_parts`.
use Rattle.std.proofs.Common.{◌≡◌, ℕ, ◌+◌, Bool, true, false, nat_lt, List, [], ◌∷◌, ◌++◌, map, refl, sym, ap, ◌∙◌, append_assoc, append-nil, arith}
use Rattle.std.proofs.lemmas.Bool.Decides.{nat_tests}
use Rattle.std.specs.Prelude.{codes}
use Rattle.json.specs.Json.{boolean}
use Rattle.json.specs.Print.{print_from}
use Rattle.json.specs.Token.{Token}
use Rattle.json.specs.Tree.{items_tokens, json_tokens}
use Rattle.backtrace_headings.specs.Headings.{Heading, heading_text}
use Rattle.backtrace_text.specs.Frames.{Frame}
use Rattle.backtrace_text.specs.Threads.{Backtrace, backtrace_text, text_of}
use Rattle.backtrace_json.specs.Documents.{document_of}
use Rattle.backtrace_json.specs.Forms.{frames_part, parts_in, stack_part, stacks_part, text_in}
use Rattle.backtrace_json.specs.Frames.{frame_value}
use Rattle.backtrace_json.specs.Headings.{command_value, signal_value}
use Rattle.backtrace_json.specs.Parts.{comma_if, end_json, frame_json, heading_json, thread_tokens}
use Rattle.backtrace_json.specs.Threads.{stop_reason, text_if, thread_value}
use Rattle.backtrace_json.specs.Values.{items_of, json_text, number_value}
use Rattle.backtrace_json.specs.declared.forms.TextForm.{TextForm}
use Rattle.backtrace_json.specs.declared.forms.TextForm.TheVariants.{Json as JsonForm, Lines}
use Rattle.backtrace_json.proofs.Printed.{members_in, printed_element, printed_end, printed_opened}

-- ---- frames

behind_one : (n : ℕ) → true ≡ nat_lt 0 (n + 1)
behind_one n = grind (arith, nat_tests)

frames_printed : (n : ℕ) (frames : List Frame) (rest : List Token)
    → print_from (nat_lt 0 n) (items_tokens (items_of (map frame_value frames)) ++ rest) ≡ frames_part JsonForm n frames ++ print_from false (Token.end_array ∷ rest)
frames_printed n [] rest = printed_end (nat_lt 0 n) rest
frames_printed n (frame ∷ frames) rest =
    printed_element (nat_lt 0 n) (members_in (frame_value frame)) (map frame_value frames) rest
    ∙ ap (λ (b : Bool). frame_json n frame ++ print_from b (items_tokens (items_of (map frame_value frames)) ++ rest)) (behind_one n)
    ∙ ap (λ (t : List ℕ). frame_json n frame ++ t) (frames_printed (n + 1) frames rest)
    ∙ sym (append_assoc (frame_json n frame) (frames_part JsonForm (n + 1) frames) (print_from false (Token.end_array ∷ rest)))

-- ---- threads

thread_in_order : (id name signal frames items stopped : List Token)
    → id ++ (name ++ (signal ++ (frames ++ (items ++ stopped)))) ≡ (((id ++ name) ++ signal) ++ frames) ++ (items ++ stopped)
thread_in_order id name signal frames items stopped = simp append_assoc

regrouped : (comma opening frames end : List ℕ) → comma ++ (opening ++ (frames ++ end)) ≡ ((comma ++ opening) ++ frames) ++ end
regrouped comma opening frames end = simp append_assoc

thread_printed : (later : Bool) (stack : Backtrace) → comma_if later ++ json_text (thread_value stack) ≡ stack_part JsonForm later stack
thread_printed later stack =
    let label = stack.thread in
    let id = Token.begin_object ∷ Token.key (codes "id") ∷ json_tokens (number_value label.id) in
    let name = Token.key (codes "name") ∷ json_tokens (text_if label.name) in
    let signal = Token.key (codes "got_signal") ∷ json_tokens (boolean label.got_signal) in
    let frames = Token.key (codes "frames") ∷ Token.begin_array ∷ [] in
    let items = items_tokens (items_of (map frame_value stack.frames)) in
    let stopped = Token.key (codes "stopped") ∷ json_tokens (text_if (stop_reason stack.end)) ++ Token.end_object ∷ [] in
    let opening = print_from false (thread_tokens label) in
    ap (λ (t : List ℕ). comma_if later ++ t)
    (ap (print_from false) (thread_in_order id name signal frames items stopped)
    ∙ printed_opened ((id ++ name) ++ signal) (items ++ stopped) (Token.key (codes "frames"))
    ∙ ap (λ (t : List ℕ). opening ++ t) (frames_printed 0 stack.frames stopped))
    ∙ regrouped (comma_if later) opening (frames_part JsonForm 0 stack.frames) (end_json stack.end)

stacks_printed : (later : Bool) (stacks : List Backtrace) (rest : List Token)
    → print_from later (items_tokens (items_of (map thread_value stacks)) ++ rest) ≡ stacks_part JsonForm later stacks ++ print_from false (Token.end_array ∷ rest)
stacks_printed later [] rest = printed_end later rest
stacks_printed later (stack ∷ stacks) rest =
    printed_element later (members_in (thread_value stack)) (map thread_value stacks) rest
    ∙ ap (λ (t : List ℕ). t ++ print_from true (items_tokens (items_of (map thread_value stacks)) ++ rest)) (thread_printed later stack)
    ∙ ap (λ (t : List ℕ). stack_part JsonForm later stack ++ t) (stacks_printed true stacks rest)
    ∙ sym (append_assoc (stack_part JsonForm later stack) (stacks_part JsonForm true stacks) (print_from false (Token.end_array ∷ rest)))

-- ---- the whole

heading_in_order : (command signal threads items end : List Token)
    → command ++ (signal ++ (threads ++ (items ++ end))) ≡ ((command ++ signal) ++ threads) ++ (items ++ end)
heading_in_order command signal threads items end = simp append_assoc

closing : print_from false (Token.end_array ∷ Token.end_object ∷ []) ≡ codes "]}"
unfolding print_from
closing = refl

document_printed : (heading : Heading) (stacks : List Backtrace)
    → json_text (document_of heading stacks) ≡ heading_json heading ++ (stacks_part JsonForm false stacks ++ codes "]}")
document_printed heading stacks =
    let command = Token.begin_object ∷ Token.key (codes "command") ∷ json_tokens (command_value heading.process) in
    let signal = Token.key (codes "signal") ∷ json_tokens (signal_value heading.signal) in
    let threads = Token.key (codes "threads") ∷ Token.begin_array ∷ [] in
    let items = items_tokens (items_of (map thread_value stacks)) in
    let end = Token.end_object ∷ [] in
    ap (print_from false) (heading_in_order command signal threads items end)
    ∙ printed_opened (command ++ signal) (items ++ end) (Token.key (codes "threads"))
    ∙ ap (λ (t : List ℕ). heading_json heading ++ t) (stacks_printed false stacks end)
    ∙ ap (λ (t : List ℕ). heading_json heading ++ (stacks_part JsonForm false stacks ++ t)) closing

lines_parts : (later : Bool) (stacks : List Backtrace) → text_of stacks ≡ stacks_part Lines later stacks
lines_parts later [] = refl
lines_parts later (stack ∷ stacks) = ap (λ (t : List ℕ). backtrace_text stack ++ t) (lines_parts true stacks)

ended : (heading stacks end line_end : List ℕ) → (heading ++ (stacks ++ end)) ++ line_end ≡ heading ++ (stacks ++ (end ++ line_end))
ended heading stacks end line_end = simp append_assoc

-- the parts, one after the other, are the text
pub text_in-parts : (form : TextForm) (heading : Heading) (stacks : List Backtrace)
    → text_in form heading stacks ≡ parts_in form heading stacks
text_in-parts Lines heading stacks =
    ap (λ (t : List ℕ). heading_text heading ++ t) (lines_parts false stacks ∙ sym (append-nil (stacks_part Lines false stacks)))
text_in-parts JsonForm heading stacks =
    ap (λ (t : List ℕ). t ++ 10 ∷ []) (document_printed heading stacks) ∙ ended (heading_json heading) (stacks_part JsonForm false stacks) (codes "]}") (10 ∷ [])
