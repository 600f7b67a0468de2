-- What the rules say of rows.
use Rattle.std.proofs.Common.{◌≡◌, ℕ, true, false, Some, None, Ok, Err, Option, Result, sym, refl, ap, ◌∙◌, arith}
use Rattle.std.specs.Option.{ok_or}
use Rattle.sheet.specs.declared.words.Kind.{Kind}
use Rattle.sheet.specs.declared.words.Grade.{Grade}
use Rattle.sheet.specs.declared.words.Scope.{Scope}
use Rattle.sheet.specs.declared.words.Proxy.{Proxy}
use Rattle.sheet.specs.declared.row.Event.{Event}
use Rattle.sheet.specs.declared.row.Fields.{Fields}
use Rattle.sheet.specs.declared.calls.Refusal.{Refusal}
use Rattle.sheet.specs.declared.calls.Refusal.TheVariants.{BadField}
use Rattle.sheet.specs.Words.{nth, kinds, grades, scopes, proxies}
use Rattle.sheet.specs.Rules.{bind, decoded, keeps, lawful, no_event, or_none, fields_fit, event_of}

pub bind_none : {A B : Type 0} (o : Option A) (f : A → Option B) → o ≡ None → bind o f ≡ None
bind_none None f e = refl
bind_none (Some x) f e = cc

pub bind_some : {A B : Type 0} (o : Option A) (f : A → Option B) (x : A) → o ≡ Some x → bind o f ≡ f x
bind_some None f x e = cc
bind_some (Some y) f x e = let q : y ≡ x = cc in ap f q

-- ---- what was read, and the refusal of a field

pub read_none : {A : Type 0} (o : Option A) (y : Refusal) → Err y ≡ ok_or o BadField → (o ≡ None) × (y ≡ BadField)
read_none None y e = (refl, cc)
read_none (Some x) y e = cc

pub read_some : {A : Type 0} (o : Option A) (x : A) → Ok x ≡ ok_or o BadField → o ≡ Some x
read_some None x e = cc
read_some (Some y) x e = cc

-- one word after another
module _ {A B : Type 0} (o : Option A) (f : A → Option B) where
  pub stops : (y : Refusal) → Err y ≡ ok_or o BadField → Err y ≡ ok_or (bind o f) BadField
  stops y e = let q = read_none o y e in ap Err q.1 ∙ ap (λ t. ok_or t BadField) (sym (bind_none o f q.0))

  pub goes_on : (x : A) (r : Result B Refusal) → Ok x ≡ ok_or o BadField → r ≡ ok_or (f x) BadField → r ≡ ok_or (bind o f) BadField
  goes_on x r e h = h ∙ ap (λ t. ok_or t BadField) (sym (bind_some o f x (read_some o x e)))

-- ---- fields

pub decoded_none : (f : Fields) → decoded f ≡ None → fields_fit f ≡ false
unfolding fields_fit
decoded_none f e = ap (keeps no_event) e

pub decoded_unlawful : (f : Fields) (e : Event) → decoded f ≡ Some e → lawful e ≡ false → fields_fit f ≡ false
unfolding fields_fit
decoded_unlawful f e d h = ap (keeps no_event) d ∙ h

pub decoded_lawful : (f : Fields) (e : Event) → decoded f ≡ Some e → lawful e ≡ true → (fields_fit f ≡ true) × (e ≡ event_of f)
unfolding fields_fit event_of
decoded_lawful f e d h = (ap (keeps no_event) d ∙ h, sym (ap or_none d))

-- an event has the numbers that its fields name
pub decoded_numbers : (f : Fields) (e : Event) → decoded f ≡ Some e → (e.thread ≡ f.thread) × (e.address ≡ f.address) × (e.value ≡ f.value)
unfolding decoded
decoded_numbers f e d = go (nth kinds f.kind) (nth grades f.grade) (nth scopes f.scope) (nth proxies f.proxy) d
  where
    go : (a : Option Kind) (b : Option Grade) (c : Option Scope) (p : Option Proxy)
        → bind a (λ k. bind b (λ g. bind c (λ s. bind p (λ q. Some (record { thread = f.thread; kind = k; grade = g; scope = s; proxy = q; address = f.address; value = f.value }))))) ≡ Some e
        → (e.thread ≡ f.thread) × (e.address ≡ f.address) × (e.value ≡ f.value)
    go None b c p h = absurd (let z : ◌≡◌ {A = ℕ} 0 1 = cc in omega arith)
    go (Some k) None c p h = absurd (let z : ◌≡◌ {A = ℕ} 0 1 = cc in omega arith)
    go (Some k) (Some g) None p h = absurd (let z : ◌≡◌ {A = ℕ} 0 1 = cc in omega arith)
    go (Some k) (Some g) (Some s) None h = absurd (let z : ◌≡◌ {A = ℕ} 0 1 = cc in omega arith)
    go (Some k) (Some g) (Some s) (Some q) h =
        (sym (ap (λ (o : Option Event). (or_none o).thread) h), sym (ap (λ (o : Option Event). (or_none o).address) h), sym (ap (λ (o : Option Event). (or_none o).value) h))
