-- A whole of three parts: where a later part is refused, so is the whole, whatever the parts before it are.
use Rattle.std.proofs.Common.{◌≡◌, Option, Some, None, option_and_then, Ok, Err, ap}
use Rattle.std.specs.Prelude.{option_map}
use Rattle.event_line.specs.declared.faults.DeliveryFault.{DeliveryFault}
use Rattle.event_line.specs.declared.faults.DeliveryFault.TheVariants.{Bad, OutOfMemory}
use Rattle.event_line.specs.declared.faults.LineCause.{LineCause}
use Rattle.event_line.specs.Line.{AnswersPart, else_cause}

-- the second part is refused
pub second_refused : {A B D : Type 0} (cause : LineCause) (a : Option A) (b : Option B) (next : A → B → Option D) (fault : DeliveryFault) →
    AnswersPart (else_cause cause b Ok) (Err fault) → AnswersPart (else_cause cause (option_and_then (λ x. option_and_then (next x) b) a) Ok) (Err fault)
second_refused cause a b next OutOfMemory refused = tt
second_refused cause a (Some y) next (Bad why) refused = cc
second_refused cause None None next (Bad why) refused = let same : cause ≡ why = cc in ap Err same
second_refused cause (Some x) None next (Bad why) refused = let same : cause ≡ why = cc in ap Err same

-- the third part is refused
pub third_refused : {A B C D : Type 0} (cause : LineCause) (a : Option A) (b : Option B) (c : Option C) (build : A → B → C → D) (fault : DeliveryFault) →
    AnswersPart (else_cause cause c Ok) (Err fault) → AnswersPart (else_cause cause (option_and_then (λ x. option_and_then (λ y. option_map (build x y) c) b) a) Ok) (Err fault)
third_refused cause a b c build OutOfMemory refused = tt
third_refused cause a b (Some z) build (Bad why) refused = cc
third_refused cause None b None build (Bad why) refused = let same : cause ≡ why = cc in ap Err same
third_refused cause (Some x) None None build (Bad why) refused = let same : cause ≡ why = cc in ap Err same
third_refused cause (Some x) (Some y) None build (Bad why) refused = let same : cause ≡ why = cc in ap Err same

-- what is answered is there
pub answered : {A : Type 0} (cause : LineCause) (o : Option A) (a : A) → else_cause cause o Ok ≡ Ok a → o ≡ Some a
answered cause None a is = cc
answered cause (Some x) a is = let same : x ≡ a = cc in ap Some same
