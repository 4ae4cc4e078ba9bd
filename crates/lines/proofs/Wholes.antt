-- Lines that are read whole: what was read of their numbers says which fields they have. Assumes nothing.
use Rattle.std.specs.Prelude.{Result, Ok, Err, IsErrAnd, ℕ, ◌≤◌, ◌≡◌, refl, Bool, true, false, List, [], ◌∷◌, ◌++◌, length, drop}
use Rattle.std.proofs.Common.{sym, ap, ◌∙◌, append_assoc, append-nil, arith}
use Rattle.std.proofs.Math.Option.{Option, none, some, map}
use Rattle.text.specs.declared.read.Field.{Field}
use Rattle.text.specs.declared.read.Malformed.{Malformed}
use Rattle.text.specs.declared.read.Number.{Number}
use Rattle.text.specs.Text.{tab, number_of}
use Rattle.text.specs.LineEnds.{Reaches}
use Rattle.text.specs.Fields.{Cut, endless, cut, field_of, Answers, said, unsaid, ReadNumber, clipped, held}
use Rattle.text.specs.Fields.{First, unended, first, behind, first_line, goes_on, Fields}
use Rattle.text.proofs.LineEnds.{reaches_on}
use Rattle.text.proofs.FieldLaws.{fields_none, fields_more, fields_endless, fields_reach, line_parts, some_part}
use Rattle.plan.specs.declared.form.Form.{Form}
use Rattle.plan.specs.declared.form.Form.TheVariants as forms
use Rattle.plan.specs.Plan.{Plan}
use Rattle.plan.specs.Line as plans
use Rattle.plan.specs.Line.{one_number, with_both, two_numbers, in_form}
use Rattle.plan.specs.Reading.{first_refusal}
use Rattle.lines.specs.declared.line.Line.{Line}
use Rattle.lines.specs.Lines.{Formless, Says, number_alone, numbers_alone, pair_of, both_held, sizes_held, judges, Makes, IsWhole, wrong_line, Whole, malformed, formed}

-- ---- fields after which a line says nothing, whatever follows

module _ {B : Type 0} (form : List (List ℕ) → Option B) (text : List ℕ) (at : ℕ) where
  none_behind : (fs : List (List ℕ)) (l : First) → ((gs : List (List ℕ)) → form (fs ++ gs) ≡ none) → Formless form (behind fs l)
  none_behind fs unended h = tt
  none_behind fs (first gs rest) h = h gs

  pub formless : {fs : List (List ℕ)} {next : ℕ} (more : Bool) → Fields text at fs next more
      → ((gs : List (List ℕ)) → form (fs ++ gs) ≡ none) → Formless form (first_line (drop at text))
  formless {fs} {next} true so h = rw so.line (none_behind fs (first_line (drop next text)) h)
  formless {fs} false so h = rw so.line (rw append-nil at (h []))

  -- the next field is of no form
  pub formless_next : {fs : List (List ℕ)} {next : ℕ} → Fields text at fs next true
      → ((x : List ℕ) (more : Bool) (rest : List ℕ) → field_of (drop next text) ≡ cut x more rest
      → (gs : List (List ℕ)) → form (fs ++ x ∷ gs) ≡ none)
      → Formless form (first_line (drop at text))
  formless_next {fs} {next} so h = by (field_of (drop next text)) refl
    where
      by : (k : Cut) → field_of (drop next text) ≡ k → Formless form (first_line (drop at text))
      by endless e = rw (fields_endless so e) tt
      by (cut x more rest) e = formless more (fields_more so x more rest e) (λ gs. rw append_assoc (h x more rest e gs))

-- the fields of the line say nothing, and are left where this tells
pub record Left {B : Type 0} (form : List (List ℕ) → Option B) (text : List ℕ) (at : ℕ) (wrong : Malformed) (n : ℕ) : Type 0 where
  pub formless : Formless form (first_line (drop at text))
  pub reach : Reaches text at wrong.goes_on n

-- ---- a field that was read after fields of a line

-- what it says, and the fields with it, up to the byte that was looked at last
pub record Told {A B : Type 0} (value : B → A) (says : List ℕ → Option B) (text : List ℕ) (at : ℕ) (fs : List (List ℕ)) (then : ℕ)
    (f : Field A) (n : ℕ) : Type 0 where
  pub bytes : List ℕ
  pub it : B
  pub rest : List ℕ
  pub tells : says bytes ≡ some it
  pub holds : f.value ≡ value it
  pub cut : field_of (drop then text) ≡ Cut.cut bytes f.more rest
  pub fields : Fields text at (fs ++ bytes ∷ []) n f.more

module _ {A B : Type 0} {value : B → A} {says : List ℕ → Option B} {text : List ℕ} {at : ℕ} {fs : List (List ℕ)} {then : ℕ}
    (so : Fields text at fs then true) {n : ℕ} where
  pub told : {f : Field A} → Answers value says text then (Ok f) n → Told value says text at fs then f n
  told {f} (said x v more rest e s q i) =
      let on : f.more ≡ more = cc in
      record {
        bytes = x;
        it = v;
        rest = rest;
        tells = s;
        holds = cc;
        cut = rw on e;
        fields = rw (q, on) (fields_more so x more rest e);
      }
  told (unsaid more u reach i) = absurd (cc)

  -- the field says nothing, and is left where the line goes on or has ended
  pub untold : {wrong : Malformed} → Answers value says text then (Err wrong) n → {C : Type 0} (form : List (List ℕ) → Option C)
      → ((x : List ℕ) → says x ≡ none → (gs : List (List ℕ)) → form (fs ++ x ∷ gs) ≡ none) → Left form text at wrong n
  untold (said x v more rest e s q i) form h = absurd (cc)
  untold {wrong} (unsaid more u reach i) form h =
      let on : wrong.goes_on ≡ more = cc in
      record {
        formless = formless_next form text at so (λ x m rest q. h x (rw q at u));
        reach = rw on (reaches_on (fields_reach true so) reach);
      }

-- ---- a line after its first field

map-id : (o : Option plans.Line) → o ≡ map (λ l. l) o
map-id none = refl
map-id (some l) = refl

-- what follows is a field at least
some_field : (text : List ℕ) {fs : List (List ℕ)} {rest : List ℕ} → first_line text ≡ first fs rest
    → (g : List ℕ) × (gs : List (List ℕ)) × (fs ≡ g ∷ gs)
some_field text {fs} {rest} e =
    let (part, parts, fields) = line_parts text fs rest e in
    let (g, gs, is) = some_part tab part in
    (g, gs, sym fields ∙ is)

module _ {text : List ℕ} {at : ℕ} {x : List ℕ} {then : ℕ} (so : Fields text at (x ∷ []) then true) where
  after_first : (gs : List (List ℕ)) (more : Bool) (rest : List ℕ) → behind (x ∷ []) (goes_on gs more rest) ≡ goes_on (x ∷ gs) more rest
  after_first gs false rest = refl
  after_first gs true rest = by (first_line rest)
    where
      by : (l : First) → behind (x ∷ []) (behind gs l) ≡ behind (x ∷ gs) l
      by unended = refl
      by (first hs after) = refl

  pub fields_after : {gs : List (List ℕ)} {next : ℕ} {more : Bool} → Fields text then gs next more → Fields text at (x ∷ gs) next more
  fields_after {gs} {next} {more} fields =
      record {
        on = omega (arith, so.on, fields.on);
        within = fields.within;
        line = so.line ∙ ap (behind (x ∷ [])) fields.line ∙ after_first gs more (drop next text);
      }

  -- what the fields say with the first one before them
  module _ {B C : Type 0} (up : B → C) (form : List (List ℕ) → Option B) (all : List (List ℕ) → Option C)
      (e : (f : List ℕ) (fs : List (List ℕ)) → all (x ∷ f ∷ fs) ≡ map up (form (f ∷ fs))) where
    pub same_form : (fs : List (List ℕ)) {rest : List ℕ} → first_line (drop then text) ≡ first fs rest → all (x ∷ fs) ≡ map up (form fs)
    same_form fs q = let (g, gs, is) = some_field (drop then text) q in rw is (e g gs)

    pub formless_after : Formless form (first_line (drop then text)) → Formless all (first_line (drop at text))
    formless_after h = rw so.line (by (first_line (drop then text)) refl h)
      where
        by : (l : First) → first_line (drop then text) ≡ l → Formless form l → Formless all (behind (x ∷ []) l)
        by unended q h = tt
        by (first fs rest) q h = same_form fs q ∙ ap (map up) h

    pub left_after : {A : Type 0} {value : B → A} {wrong : Malformed} {n : ℕ} → Says value form text then (Err wrong) n
        → Left all text at wrong n
    left_after (Says.said fs b s fields is) = absurd (cc)
    left_after {wrong = wrong} (Says.unsaid more u reach is) =
        let on : wrong.goes_on ≡ more = cc in
        record { formless = formless_after u; reach = rw on (reaches_on (fields_reach true so) reach) }

  -- they say the same
  module _ (form all : List (List ℕ) → Option plans.Line) (e : (f : List ℕ) (fs : List (List ℕ)) → all (x ∷ f ∷ fs) ≡ form (f ∷ fs)) where
    same : (f : List ℕ) (fs : List (List ℕ)) → all (x ∷ f ∷ fs) ≡ map (λ l. l) (form (f ∷ fs))
    same f fs = e f fs ∙ map-id (form (f ∷ fs))

    pub left_same : {p : Plan} {r : Result Line Malformed} {n : ℕ} (more : Bool) → r ≡ wrong_line more → Formless form (first_line (drop then text))
        → Reaches text then more n → Whole text at p all r n
    left_same more wrong h reach =
        malformed more wrong (formless_after (λ l. l) form all same h) (reaches_on (fields_reach true so) reach)

    pub whole_after : {p : Plan} {r : Result Line Malformed} {n : ℕ} → Whole text then p form r n → Whole text at p all r n
    whole_after (malformed more wrong h reach) = left_same more wrong h reach
    whole_after (formed f) =
        formed (record {
          l = f.l;
          fs = x ∷ f.fs;
          formed = same_form (λ l. l) form all same f.fs f.fields.line ∙ ap (map (λ l. l)) f.formed;
          fields = fields_after f.fields;
          line = f.line;
          is = f.is;
          ended = f.ended;
          whole = f.whole;
          judged = f.judged;
          makes = f.makes;
        })

-- ---- an error that is passed on

pub passed_on : {A E : Type 0} (r : Result A E) (wrong : E) → IsErrAnd r (λ e. e ≡ wrong) → r ≡ Err wrong
passed_on (Ok x) wrong h = absurd h
passed_on (Err e) wrong h = ap Err h

-- ---- what ends a line

module _ {A B : Type 0} {value : B → A} {form : List (List ℕ) → Option B} {text : List ℕ} {at : ℕ} {n : ℕ} where
  pub says_left : {wrong : Malformed} → Left form text at wrong n → Says value form text at (Err wrong) n
  says_left {wrong} l = Says.unsaid wrong.goes_on l.formless l.reach refl

  pub left_of : {wrong : Malformed} → Says value form text at (Err wrong) n → Left form text at wrong n
  left_of (Says.said fs b s fields is) = absurd (cc)
  left_of {wrong} (Says.unsaid more u reach is) =
      let on : wrong.goes_on ≡ more = cc in
      record { formless = u; reach = rw on reach }

-- ---- one number, and two

abbrev pub ToldNumber : List ℕ → ℕ → Field Number → ℕ → Type 0
ToldNumber text at f n = Told held number_of text at [] at f n

alone_none : (x : List ℕ) → number_of x ≡ none → (gs : List (List ℕ)) → number_alone (x ∷ gs) ≡ none
alone_none x e [] = e
alone_none x e (g ∷ gs) = refl

module _ {text : List ℕ} {at : ℕ} (in_text : at ≤ length text) {n : ℕ} where
  -- the first field of those that begin at a place
  pub number_told : {f : Field Number} → ReadNumber text at (Ok f) n → ToldNumber text at f n
  number_told = told (fields_none text at in_text)

  pub number_left : {wrong : Malformed} → ReadNumber text at (Err wrong) n → Left number_alone text at wrong n
  number_left so = untold (fields_none text at in_text) so number_alone (λ x e gs. alone_none x e gs)

  pub numbers_left : {wrong : Malformed} → ReadNumber text at (Err wrong) n → Left numbers_alone text at wrong n
  numbers_left so = untold (fields_none text at in_text) so numbers_alone (λ x e gs. rw e refl)

module _ {text : List ℕ} {at : ℕ} {f : Field Number} {n : ℕ} (t : ToldNumber text at f n) where
  -- it is alone, or not
  pub number_ends : f.more ≡ false → Says held number_alone text at (Ok f.value) n
  number_ends e = Says.said (t.bytes ∷ []) t.it t.tells (rw e at t.fields) (ap Ok t.holds)

  pub number_goes_on : f.more ≡ true → Says held number_alone text at (Err (record { goes_on = true })) n
  number_goes_on e =
      let so = rw e at t.fields in
      Says.unsaid true (formless_next number_alone text at so (λ x m rest q gs. refl)) (fields_reach true so) refl

  -- it is the first of two, or the only one
  pub numbers_end : f.more ≡ false → Says both_held numbers_alone text at (Err (record { goes_on = false })) n
  numbers_end e =
      let so = rw e at t.fields in
      Says.unsaid false (rw so.line (rw t.tells refl)) (fields_reach false so) refl

  module _ (e : f.more ≡ true) where
    pub second_left : {m : ℕ} {wrong : Malformed} → Says held number_alone text n (Err wrong) m → Left numbers_alone text at wrong m
    second_left so =
        left_after (rw e at t.fields) (λ k. (t.it, k)) number_alone numbers_alone (λ g gs. rw t.tells (paired (number_alone (g ∷ gs)))) so
      where
        paired : (o : Option ℕ) → pair_of (some t.it) o ≡ map (λ k. (t.it, k)) o
        paired none = refl
        paired (some k) = refl

    pub second_told : {m : ℕ} {last : Number} → Says held number_alone text n (Ok last) m
        → Says both_held numbers_alone text at (Ok (f.value, last)) m
    second_told {last = last} (Says.said fs k s fields is) =
        let same : last ≡ held k = cc in
        Says.said (t.bytes ∷ fs) (t.it, k) (rw (t.tells, s) refl) (fields_after (rw e at t.fields) fields) (rw (t.holds, same) refl)
    second_told (Says.unsaid more u reach is) = absurd (cc)

pub sizes_told : {text : List ℕ} {at n : ℕ} {slots capacity : Number} → Says both_held numbers_alone text at (Ok (slots, capacity)) n
    → Says sizes_held numbers_alone text at (Ok (forms.Second slots.value capacity.value)) n
sizes_told {slots = slots} {capacity} (Says.said fs (m, k) s fields is) =
    let both : (slots, capacity) ≡ both_held (m, k) = cc in
    Says.said fs (m, k) s fields (ap (λ (q : Number × Number). Ok (forms.Second q.0.value q.1.value)) both)
sizes_told (Says.unsaid more u reach is) = absurd (cc)

-- ---- the lines of one number, of two, and a W line

one_is : (make : ℕ → plans.Line) (fs : List (List ℕ)) → one_number make fs ≡ map make (number_alone fs)
one_is make [] = refl
one_is make (f ∷ []) = refl
one_is make (f ∷ g ∷ gs) = refl

abbrev of_both : (ℕ → ℕ → plans.Line) → ℕ × ℕ → plans.Line
of_both make (m, n) = make m n

two_is : (make : ℕ → ℕ → plans.Line) (fs : List (List ℕ)) → two_numbers make fs ≡ map (of_both make) (numbers_alone fs)
two_is make [] = refl
two_is make (f ∷ []) = by (number_of f)
  where
    by : (o : Option ℕ) → none ≡ map (of_both make) (pair_of o none)
    by none = refl
    by (some m) = refl
two_is make (f ∷ g ∷ []) = by (number_of f) (number_of g)
  where
    by : (o q : Option ℕ) → with_both make o q ≡ map (of_both make) (pair_of o q)
    by none q = refl
    by (some m) none = refl
    by (some m) (some n) = refl
two_is make (f ∷ g ∷ h ∷ hs) = by (number_of f)
  where
    by : (o : Option ℕ) → none ≡ map (of_both make) (pair_of o none)
    by none = refl
    by (some m) = refl

in_form_none : (make : ℕ → Form → plans.Line) (x : List ℕ) → number_of x ≡ none → (gs : List (List ℕ)) → in_form make (x ∷ gs) ≡ none
in_form_none make x e [] = rw e
in_form_none make x e (g ∷ gs) = rw (e, in_form)

-- after the workers
abbrev sized : (ℕ → Form → plans.Line) → ℕ → ℕ × ℕ → plans.Line
sized make v (slots, capacity) = make v (forms.Second slots capacity)

second_form : (make : ℕ → Form → plans.Line) (x : List ℕ) (v : ℕ) → number_of x ≡ some v → (y : List ℕ) (gs : List (List ℕ))
    → in_form make (x ∷ y ∷ gs) ≡ map (sized make v) (numbers_alone (y ∷ gs))
second_form make x v e y gs = rw (e, in_form) (two_is (λ slots capacity. make v (forms.Second slots capacity)) (y ∷ gs))

formless_as : {B : Type 0} (up : B → plans.Line) (says : List (List ℕ) → Option B) (form : List (List ℕ) → Option plans.Line)
    → ((fs : List (List ℕ)) → form fs ≡ map up (says fs)) → (l : First) → Formless says l → Formless form l
formless_as up says form e unended h = tt
formless_as up says form e (first fs rest) h = e fs ∙ ap (map up) h

-- the answer for a line, as it is judged
pub record Judged (p : Plan) (l : plans.Line) (line : Line) : Type 0 where
  pub ended : line.more ≡ false
  pub whole : IsWhole line.kind
  pub judged : line.judged ≡ judges l
  pub makes : first_refusal l.asks ≡ none → Makes line.kind p l.plan

module _ {text : List ℕ} {at : ℕ} {p : Plan} {n : ℕ} where
  pub whole_left : {form : List (List ℕ) → Option plans.Line} {wrong : Malformed} → Left form text at wrong n
      → Whole text at p form (Err wrong) n
  whole_left {wrong = wrong} l = malformed wrong.goes_on refl l.formless l.reach

  pub so_formed : (form : List (List ℕ) → Option plans.Line) {l : plans.Line} (fs : List (List ℕ)) → form fs ≡ some l
      → Fields text at fs n false → {line : Line} → Judged p l line → Whole text at p form (Ok line) n
  so_formed form {l} fs e fields {line} j =
      formed (record {
        l = l;
        fs = fs;
        formed = e;
        fields = fields;
        line = line;
        is = refl;
        ended = j.ended;
        whole = j.whole;
        judged = j.judged;
        makes = j.makes;
      })

  -- a line that its numbers say
  module _ {A B : Type 0} {value : B → A} {says : List (List ℕ) → Option B} (up : B → plans.Line) (form : List (List ℕ) → Option plans.Line)
      (e : (fs : List (List ℕ)) → form fs ≡ map up (says fs)) where
    pub as_left : {wrong : Malformed} → Says value says text at (Err wrong) n → Whole text at p form (Err wrong) n
    as_left so =
        let l = left_of so in
        whole_left (record { formless = formless_as up says form e (first_line (drop at text)) l.formless; reach = l.reach })

    pub as_formed : {a : A} → Says value says text at (Ok a) n → {line : Line} → ((b : B) → a ≡ value b → Judged p (up b) line)
        → Whole text at p form (Ok line) n
    as_formed (Says.said fs b s fields is) j = so_formed form fs (e fs ∙ ap (map up) s) fields (j b (cc))
    as_formed (Says.unsaid more u reach is) j = absurd (cc)

  module _ (make : ℕ → plans.Line) where
    pub one_left : {wrong : Malformed} → Says held number_alone text at (Err wrong) n → Whole text at p (one_number make) (Err wrong) n
    one_left = as_left make (one_number make) (one_is make)

    pub one_formed : {a : Number} → Says held number_alone text at (Ok a) n → {line : Line}
        → ((m : ℕ) → a ≡ held m → Judged p (make m) line) → Whole text at p (one_number make) (Ok line) n
    one_formed = as_formed make (one_number make) (one_is make)

  module _ (make : ℕ → ℕ → plans.Line) where
    pub two_left : {wrong : Malformed} → Says both_held numbers_alone text at (Err wrong) n → Whole text at p (two_numbers make) (Err wrong) n
    two_left = as_left (of_both make) (two_numbers make) (two_is make)

    pub two_formed : {a b : Number} → Says both_held numbers_alone text at (Ok (a, b)) n → {line : Line}
        → ((m k : ℕ) → a ≡ held m → b ≡ held k → Judged p (make m k) line) → Whole text at p (two_numbers make) (Ok line) n
    two_formed {a} {b} so j =
        as_formed (of_both make) (two_numbers make) (two_is make) so
        (λ (m, k) e. j m k (ap (λ (q : Number × Number). q.0) e) (ap (λ (q : Number × Number). q.1) e))

  -- a W line, by its workers: it ends, or goes on
  module _ (make : ℕ → Form → plans.Line) where
    pub workers_left : at ≤ length text → {wrong : Malformed} → ReadNumber text at (Err wrong) n → Whole text at p (in_form make) (Err wrong) n
    workers_left in_text so = whole_left (untold (fields_none text at in_text) so (in_form make) (λ x e gs. in_form_none make x e gs))

module _ (make : ℕ → Form → plans.Line) {text : List ℕ} {at : ℕ} {f : Field Number} {then : ℕ} (t : ToldNumber text at f then) {p : Plan} where
  pub first_formed : f.more ≡ false → {line : Line} → Judged p (make t.it forms.First) line → Whole text at p (in_form make) (Ok line) then
  first_formed e j = so_formed (in_form make) (t.bytes ∷ []) (rw t.tells refl) (rw e at t.fields) j

  module _ (e : f.more ≡ true) where
    pub sizes_left : {wrong : Malformed} {n : ℕ} → Says sizes_held numbers_alone text then (Err wrong) n
        → Whole text at p (in_form make) (Err wrong) n
    sizes_left so = whole_left (left_after (rw e at t.fields) (sized make t.it) numbers_alone (in_form make) (second_form make t.bytes t.it t.tells) so)

    pub sizes_formed : {form : Form} {n : ℕ} → Says sizes_held numbers_alone text then (Ok form) n → {line : Line}
        → ((slots capacity : ℕ) → form ≡ forms.Second (clipped slots) (clipped capacity)
        → Judged p (make t.it (forms.Second slots capacity)) line)
        → Whole text at p (in_form make) (Ok line) n
    sizes_formed (Says.said fs (m, k) s fields is) j =
        so_formed (in_form make) (t.bytes ∷ fs)
        (same_form (rw e at t.fields) (sized make t.it) numbers_alone (in_form make) (second_form make t.bytes t.it t.tells) fs fields.line
        ∙ ap (map (sized make t.it)) s)
        (fields_after (rw e at t.fields) fields) (j m k (cc))
    sizes_formed (Says.unsaid more u reach is) j = absurd (cc)
