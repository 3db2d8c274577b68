-- What is so where a call answers with a fault, and where it doesn't.
use Rattle.std.proofs.Common.{◌≡◌, Result, Ok, Err, refl}
use Rattle.std.specs.Prelude.{IfOk, OnErr, OnOk}

pub on_err : {A B P Q : Type 0} → (P → Q) → (r : Result A B) → OnErr r P → OnErr r Q
on_err f (Ok x) h = tt
on_err f (Err e) h = f h

pub on_ok_then : {A B P Q : Type 0} → (P → Q) → (r : Result A B) → OnOk r P → OnOk r Q
on_ok_then f (Ok x) h = f h
on_ok_then f (Err e) h = tt

-- what is so either way
pub either_way : {A B P : Type 0} → (r : Result A B) → OnOk r P → OnErr r P → P
either_way (Ok x) h k = h
either_way (Err e) h k = k

-- what is so anyway
pub if_ok : {A B P : Type 0} → (r : Result A B) → P → OnOk r P
if_ok (Ok x) h = h
if_ok (Err e) h = tt

pub if_err : {A B P : Type 0} → (r : Result A B) → P → OnErr r P
if_err (Ok x) h = tt
if_err (Err e) h = h

-- what is so of each value that a call may answer with
pub if_each : {A B : Type 0} → {P : A → Type 0} → (r : Result A B) → ((x : A) → r ≡ Ok x → P x) → IfOk r P
if_each (Ok x) h = h x refl
if_each (Err e) h = tt
